-- The rest has the same places.
use Rattle.std.proofs.Common.{rules, List, [], ◌∷◌, length, map, ap, subst, ◌∙◌, sym}
use Rattle.std.specs.Prelude.{ℤ, is_some}
use Rattle.space_raw.specs.Slots.{IsRun}
use Rattle.space_raw.specs.Stores.{slots_of}
use Rattle.space_raw.proofs.Slots.{rewritten_long, rewritten_places}
use Rattle.space_raw.proofs.rest.Rest.set_tag.Goals as goal

pub invariant_of-self : goal.invariant_of-self
invariant_of-self c =
    let cs = slots_of c.self.inside.store in let place = c.args.place in
    let there : IsRun cs place 2 = subst (λ s. IsRun s.slots place 2) (sym c.self.view_is) c.requires.there in
    let now : List ℤ = c.args.tag.0 ∷ c.args.tag.1 ∷ [] in let told = c.set_pair.ensures in (
      search rules,
      c.self.invariant.1 ∙ sym (ap length told.slots ∙ rewritten_long cs place 2 now there),
      search rules,
      c.self.invariant.3 ∙ sym (ap (λ l. map is_some l) told.slots ∙ rewritten_places cs place 2 now there),
      told.store.0,
    )
