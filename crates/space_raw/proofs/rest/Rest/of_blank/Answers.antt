-- The rest has the places of all words.
use Rattle.std.proofs.Common.{◌≡◌, length, map, replicate, pos, ap, sym, ◌∙◌}
use Rattle.std.proofs.lemmas.List.{length-map, length-replicate}
use Rattle.std.specs.Prelude.{Some, is_some}
use Rattle.space_raw.proofs.Marks.{all_held}
use Rattle.space_raw.proofs.rest.Rest.of_blank.Goals as goal

pub invariant_of-result : goal.invariant_of-result
invariant_of-result c =
    let n = c.args.len in let zeros = replicate n (pos 0) in let told = c.of_blank.ensures in
    let long : n ≡ length zeros = sym (length-replicate n (pos 0)) in (
      sym c.requires.none.0 ∙ sym told.store.1,
      long ∙ sym (length-map zeros Some) ∙ sym (ap length told.slots),
      c.ranges.len.fits,
      c.requires.places ∙ all_held zeros n long ∙ ap (λ l. map is_some l) (sym told.slots),
      told.store.0,
    )
