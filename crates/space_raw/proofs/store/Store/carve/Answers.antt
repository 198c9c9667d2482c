-- The run that leaves lies before the mark.
use Rattle.std.proofs.Common.{ap, arith, subst, sym, ◌∙◌}
use Rattle.space_raw.specs.Slots.{IsRun, run_of, without}
use Rattle.space_raw.specs.Stores.{seen}
use Rattle.space_raw.proofs.Stores.{seen_long, there_is, run_is, seen_without}
use Rattle.space_raw.proofs.store.Store.carve.Goals as goal

pub overflow_add-place : goal.overflow_add-place
overflow_add-place c = let s = c.args.self.now in record { fits = omega (arith, c.requires.there.1, seen_long s.written s.loose.slots, c.requires.store.0.3) }

pub carve-words-requires : goal.carve-words-requires
carve-words-requires c =
    let m = c.reach.new.self in let place = c.args.place in let n = c.args.len in
    let there = there_is m.written m.loose.slots place n c.reach.ensures.reached (subst (λ cs. IsRun cs place n) (sym c.reach.ensures.slots) c.requires.there) in
    record { there = subst (λ l. IsRun l.slots place n) (sym c.replace-loose.ensures.value) there }

pub returns-clause-words : goal.returns-clause-words
returns-clause-words c =
    let m = c.reach.new.self in let place = c.args.place in let n = c.args.len in let same = c.replace-loose.ensures.value in let told = c.carve-words.ensures.words in (
      told.0 ∙ ap (λ l. l.base) same ∙ c.reach.ensures.store.1,
      told.1,
      told.2 ∙ ap (λ l. run_of l.slots place n) same ∙ sym (run_is m.written m.loose.slots place n c.reach.ensures.reached) ∙ ap (λ cs. run_of cs place n) c.reach.ensures.slots,
    )

pub returns-clause-slots : goal.returns-clause-slots
returns-clause-slots c =
    let m = c.reach.new.self in let cs = m.loose.slots in let place = c.args.place in let n = c.args.len in
    ap (λ l. seen m.written l) (c.carve-words.ensures.loose.1 ∙ ap (λ l. without l.slots place n) c.replace-loose.ensures.value)
    ∙ seen_without m.written cs place n c.reach.ensures.reached (omega (arith, c.reach.ensures.store.0.2))
    ∙ ap (λ l. without l place n) c.reach.ensures.slots
