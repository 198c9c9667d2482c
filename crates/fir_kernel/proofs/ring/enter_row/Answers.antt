use Rattle.std.proofs.Common.{inl, inr, refl, arith}
use Rattle.fir_kernel.proofs.RingLemmas.{row_entered, row_stays}
use Rattle.fir_kernel.proofs.ring.enter_row.Goals as goal

pub returns-then-after-size : goal.returns-then-after-size
returns-then-after-size c = record {
  within = omega arith;
  ring = λ count h few old.
      row_entered count c.args.size c.args.words.now c.place.new.words c.args.next _ h c.args.samples.now few c.requires.size c.requires.room (omega arith)
      (inl refl) c.place.ensures.copied c.place.ensures.before c.place.ensures.after old;
  stays = row_stays c.args.size c.args.words.now c.place.new.words c.args.next _ c.requires.room c.place.ensures.before c.place.ensures.after;
  row = λ fits. c.place.ensures.copied;
  before = λ fits. c.place.ensures.before;
  read = c.place.ensures.read;
}

pub returns-else-after-size : goal.returns-else-after-size
returns-else-after-size c = record {
  within = omega arith;
  ring = λ count h few old.
      row_entered count c.args.size c.args.words.now c.place.new.words c.args.next 0 h c.args.samples.now few c.requires.size c.requires.room (omega arith)
      (inr (omega arith, refl)) c.place.ensures.copied c.place.ensures.before c.place.ensures.after old;
  stays = row_stays c.args.size c.args.words.now c.place.new.words c.args.next _ c.requires.room c.place.ensures.before c.place.ensures.after;
  row = λ fits. c.place.ensures.copied;
  before = λ fits. c.place.ensures.before;
  read = c.place.ensures.read;
}
