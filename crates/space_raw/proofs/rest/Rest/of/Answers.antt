-- The rest has the places of all words.
use Rattle.std.proofs.Common.{rules, ◌≡◌, length, map, ap, arith, ◌∙◌, sym}
use Rattle.std.proofs.lemmas.List.{length-map}
use Rattle.std.specs.Prelude.{Some, is_some}
use Rattle.space_raw.specs.Marks.{range_marks}
use Rattle.space_raw.proofs.Marks.{all_held}
use Rattle.space_raw.proofs.rest.Rest.of.Goals as goal

pub invariant_of-result : goal.invariant_of-result
invariant_of-result c =
    let s = c.all.inside in let size = length s.places.marks in
    let start : s.place ≡ 0 = search rules in
    let whole : s.len ≡ size = search rules in (
      search rules,
      omega (arith, length-map s.words.items Some, ap length c.of.ensures.slots, c.all.invariant),
      search rules,
      c.all.invariant.3 ∙ ap (λ p. range_marks size p s.len) start ∙ ap (λ n. range_marks size 0 n) whole
          ∙ all_held s.words.items size (search (rules, whole)) ∙ ap (λ l. map is_some l) (sym c.of.ensures.slots),
      c.of.ensures.store.0,
    )
