-- The piece has the places of its words, and the rest keeps the others.
use Rattle.std.proofs.Common.{rules, length, map, ap, arith, subst, ◌∙◌, sym}
use Rattle.std.proofs.lemmas.List.{length-map}
use Rattle.std.specs.Prelude.{is_some}
use Rattle.space_raw.specs.Slots.{IsRun, run_of}
use Rattle.space_raw.proofs.Marks.{carved_places, left_places}
use Rattle.space_raw.proofs.Slots.{run_long, without_long}
use Rattle.space_raw.specs.Stores.{slots_of}
use Rattle.space_raw.proofs.rest.Rest.carve.Goals as goal

pub invariant_of-self : goal.invariant_of-self
invariant_of-self c =
    let cs = slots_of c.self.inside.store in let place = c.args.place in let n = c.args.len in
    let there : IsRun cs place n = subst (λ s. IsRun s.slots place n) (sym c.self.view_is) c.requires.there in
    let places = ap (λ x. x.marks) c.replace-places.ensures.value ∙ c.self.invariant.3 in
    let left = c.carve-words.ensures.slots in (
      search rules,
      c.self.invariant.1 ∙ sym (ap length left ∙ without_long cs place n there.1),
      search rules,
      left_places cs c.replace-places.result.marks c.part-inner.result.1.marks place n places there.1 c.part-inner.ensures.outer.1 ∙ ap (λ l. map is_some l) (sym left),
      c.carve-words.ensures.store.0,
    )

pub invariant_of-result : goal.invariant_of-result
invariant_of-result c =
    let cs = slots_of c.self.inside.store in let place = c.args.place in let n = c.args.len in
    let there : IsRun cs place n = subst (λ s. IsRun s.slots place n) (sym c.self.view_is) c.requires.there in
    let places = ap (λ x. x.marks) c.replace-places.ensures.value ∙ c.self.invariant.3 in
    let size = c.part-inner.ensures.inner.2 ∙ ap length places ∙ length-map cs is_some in
    let run = c.carve-words.ensures.words.2 in (
      search rules,
      search rules,
      run_long cs place n there ∙ sym (ap length run),
      carved_places cs c.replace-places.result.marks c.part-inner.result.0.marks place n places (run_of cs place n) there.0 c.part-inner.ensures.inner.1,
      omega (arith, size, there.1),
      omega (arith, size, c.self.invariant),
    )
