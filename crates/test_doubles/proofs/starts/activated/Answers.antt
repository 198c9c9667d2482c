use Rattle.std.proofs.Common.{◌≡◌, ◌∷◌, [], length, Some, refl, rules, to_z, of_z}
use Rattle.std.proofs.lemmas.Int.{to_z-of_z}
use mir.Val.{SFits}
use mir.Syntax.{w16}
use Rattle.test_doubles.specs.Starts.{placed_records}
use Rattle.test_doubles.proofs.Starting.{primed, all_lent, scratch_poisoned}
use Rattle.test_doubles.proofs.starts.activated.Goals as goal

pub returns : goal.returns
returns c =
    let poison = c.args.poison in
    let once = c.args.once in
    let fits : SFits w16 poison = search rules in
    let fits_once : SFits w16 once = search rules in
    let same : to_z w16 (of_z w16 poison) ≡ poison = to_z-of_z w16 poison fits in
    let same_once : to_z w16 (of_z w16 once) ≡ once = to_z-of_z w16 once fits_once in
    let p : c.copied.result.items ≡ poison ∷ once ∷ [] = rw (same, same_once) at c.copied.ensures in
    let table : c.in_ok-table.table ≡ placed_records = c.in_ok-table.ensures poison once p in
    let law = rw (same, table) at c.lend.ensures.done in
    let held = c.args.held in
    let four : length held.object ≡ 4 = search rules in
    let one : length held.once ≡ 1 = search rules in
    let single : length held.primed ≡ 1 = search rules in
    law (poison ∷ once ∷ []) (Some poison) [] (primed poison once) refl
    (all_lent held.object held.once held.primed (poison ∷ []) four one single refl)
    (scratch_poisoned poison held.object held.once held.primed) c.requires
