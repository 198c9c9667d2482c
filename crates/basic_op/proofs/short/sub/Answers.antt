use Rattle.std.proofs.Common.{◌-ℤ◌, w16, w32, SFits, ◌∙◌, arith}
use Rattle.std.specs.Int.Signed.{nat_abs-le}
use Rattle.std.proofs.lemmas.Int.{ints, to_z-of_z, fits_signed_from_abs}
use Rattle.basic_op.proofs.short.sub.Goals as goal

pub returns : goal.returns
returns c =
    let a = c.args.a in
    let b = c.args.b in
    let small = nat_abs-le a c.ranges.a.sfits in
    let as_small = nat_abs-le b c.ranges.b.sfits in
    let fits : SFits w32 (a -ℤ b) = fits_signed_from_abs w32 (a -ℤ b) (omega (arith, ints)) in
    let first = to_z-of_z w32 c.from-first.result (record { sfits = c.from-first.type_inv }) ∙ c.from-first.ensures ∙ to_z-of_z w16 a c.ranges.a in
    let second = to_z-of_z w32 c.from-second.result (record { sfits = c.from-second.type_inv }) ∙ c.from-second.ensures ∙ to_z-of_z w16 b c.ranges.b in
    let nearest = rw (first, second, to_z-of_z w32 (a -ℤ b) fits) at c.nearest_word16.ensures in
    to_z-of_z w16 c.nearest_word16.result (record { sfits = c.nearest_word16.type_inv }) ∙ nearest
