-- The two words lie before the mark.
use Rattle.std.proofs.Common.{[], ◌∷◌, ap, arith, subst, sym, ◌∙◌}
use Rattle.space_raw.specs.Slots.{IsRun, with_run}
use Rattle.space_raw.specs.Stores.{seen}
use Rattle.space_raw.proofs.Stores.{seen_long, there_is, seen_with}
use Rattle.space_raw.proofs.store.Store.set_pair.Goals as goal

pub overflow_add-place : goal.overflow_add-place
overflow_add-place c = let s = c.args.self.now in record { fits = omega (arith, c.requires.there.1, seen_long s.written s.loose.slots, c.requires.store.0.3) }

pub write_pair-requires-clause-there : goal.write_pair-requires-clause-there
write_pair-requires-clause-there c =
    let m = c.reach.new.self in let place = c.args.place in (
      there_is m.written m.loose.slots place 2 c.reach.ensures.reached (subst (λ cs. IsRun cs place 2) (sym c.reach.ensures.slots) c.requires.there),
      omega (arith, c.reach.ensures.reached, c.reach.ensures.store.0.2, c.reach.ensures.store.0.3),
    )

pub returns-clause-slots : goal.returns-clause-slots
returns-clause-slots c =
    let m = c.reach.new.self in let place = c.args.place in let ws = c.args.pair.0 ∷ c.args.pair.1 ∷ [] in
    ap (λ l. seen m.written l) c.write_pair.ensures.words ∙ seen_with m.written m.loose.slots place ws c.reach.ensures.reached (omega (arith, c.reach.ensures.store.0.2))
    ∙ ap (λ l. with_run l place ws) c.reach.ensures.slots
