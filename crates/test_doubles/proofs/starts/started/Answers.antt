use Rattle.std.proofs.Common.{◌≡◌, ◌∷◌, [], length, Some, refl, rules, to_z, of_z}
use Rattle.std.proofs.lemmas.Int.{to_z-of_z}
use mir.Val.{SFits}
use mir.Syntax.{w16}
use Rattle.test_doubles.specs.Starts.{placed_records}
use Rattle.test_doubles.proofs.Starting.{primed, placed_lent}
use Rattle.test_doubles.proofs.starts.started.Goals as goal

pub returns : goal.returns
returns c =
    let poison = c.args.poison in
    let once = c.args.once in
    let fits : SFits w16 poison = search rules in
    let fits_once : SFits w16 once = search rules in
    let same : to_z w16 (of_z w16 poison) ≡ poison = to_z-of_z w16 poison fits in
    let same_once : to_z w16 (of_z w16 once) ≡ once = to_z-of_z w16 once fits_once in
    let p : c.copied-p.result.items ≡ poison ∷ once ∷ [] = rw (same, same_once) at c.copied-p.ensures in
    let table : c.in_ok-table.table ≡ placed_records = c.in_ok-table.ensures poison once p in
    let law = rw (p, table) at c.lend.ensures.done in
    let new = c.args.new in
    let four : length new.object ≡ 4 = search rules in
    let one : length new.once ≡ 1 = search rules in
    let single : length new.primed ≡ 1 = search rules in
    let lent = placed_lent new.object new.once new.primed four one single in
    law (Some poison) (primed poison once) refl lent refl c.requires
