use Rattle.std.proofs.Common.{w16}
use Rattle.std.proofs.Math.Facts.{to_z-of_z}
use Rattle.lifecycle.proofs.Telling.{told_by_words}
use Rattle.lifecycle.proofs.active.Active.tell.Goals as goal

pub returns : goal.returns
returns g c = record {
  told =
      told_by_words g.M.Ialg.law c.args.self.now.instance c.args.sizes c.requires.reader c.args.once.now c.first_words-object.result.now c.first_words-words.result.now
      c.first_words-object.ensures c.first_words-words.ensures c.args.x c.process_sample.result (rw (to_z-of_z {w = w16} c.ranges.x) at c.process_sample.ensures.law);
}
