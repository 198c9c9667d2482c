-- What comes back ends before the mark.
use Rattle.std.proofs.Common.{ap, arith, ◌∙◌}
use Rattle.space_raw.specs.Slots.{with_run}
use Rattle.space_raw.specs.Stores.{seen}
use Rattle.space_raw.proofs.Stores.{seen_with}
use Rattle.space_raw.proofs.store.Store.absorb.Goals as goal

pub returns-clause-slots : goal.returns-clause-slots
returns-clause-slots c =
    let m = c.reach.new.self in let cs = m.loose.slots in let words = c.args.words in let store = c.reach.ensures.store.0 in
    ap (λ l. seen m.written l) (c.absorb-self.ensures.words.1 ∙ ap (λ l. with_run l.slots words.place words.items) c.replace-loose.ensures.value)
    ∙ seen_with m.written cs words.place words.items (omega (arith, c.requires.inside.1, c.reach.ensures.reached)) (omega (arith, store.2))
    ∙ ap (λ l. with_run l words.place words.items) c.reach.ensures.slots
