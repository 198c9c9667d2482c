-- The piece has all places.
use Rattle.std.proofs.Common.{rules, length, ap, arith, subst, ◌∙◌, sym}
use Rattle.std.proofs.lemmas.List.{length-map}
use Rattle.std.specs.Prelude.{is_some}
use Rattle.space_raw.specs.Slots.{IsRun, run_of}
use Rattle.space_raw.proofs.Marks.{carved_places}
use Rattle.space_raw.proofs.Slots.{run_long}
use Rattle.space_raw.specs.Stores.{slots_of}
use Rattle.space_raw.proofs.rest.Rest.whole.Goals as goal

pub invariant_of-result : goal.invariant_of-result
invariant_of-result c =
    let cs = slots_of c.self.inside.store in let n = c.self.inside.size in
    let all : IsRun cs 0 (length cs) = subst (λ s. IsRun s.slots 0 (length s.slots)) (sym c.self.view_is) c.requires.there in
    let there : IsRun cs 0 n = subst (λ k. IsRun cs 0 k) (sym c.self.invariant.1) all in
    let size = c.part-all.ensures.inner.2 ∙ ap length c.self.invariant.3 ∙ length-map cs is_some in (
      search rules,
      search rules,
      run_long cs 0 n there ∙ sym (ap length c.carve-words.ensures.words.2),
      carved_places cs c.self.inside.places.marks c.part-all.result.0.marks 0 n c.self.invariant.3 (run_of cs 0 n) there.0 c.part-all.ensures.inner.1,
      omega (arith, size, there.1),
      omega (arith, size, c.self.invariant),
    )
