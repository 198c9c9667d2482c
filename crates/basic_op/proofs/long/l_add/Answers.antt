use Rattle.std.proofs.Common.{◌+ℤ◌, w32, w64, SFits, ◌∙◌, arith}
use Rattle.std.specs.Int.Signed.{nat_abs-le}
use Rattle.std.proofs.lemmas.Int.{ints, to_z-of_z, fits_signed_from_abs}
use Rattle.basic_op.proofs.long.l_add.Goals as goal

pub returns : goal.returns
returns c =
    let a = c.args.v in
    let b = c.args.w in
    let small = nat_abs-le a c.ranges.v.sfits in
    let as_small = nat_abs-le b c.ranges.w.sfits in
    let fits : SFits w64 (a +ℤ b) = fits_signed_from_abs w64 (a +ℤ b) (omega (arith, ints)) in
    let first = to_z-of_z w64 c.from-first.result (record { sfits = c.from-first.type_inv }) ∙ c.from-first.ensures ∙ to_z-of_z w32 a c.ranges.v in
    let second = to_z-of_z w64 c.from-second.result (record { sfits = c.from-second.type_inv }) ∙ c.from-second.ensures ∙ to_z-of_z w32 b c.ranges.w in
    let nearest = rw (first, second, to_z-of_z w64 (a +ℤ b) fits) at c.nearest_word32.ensures in
    to_z-of_z w32 c.nearest_word32.result (record { sfits = c.nearest_word32.type_inv }) ∙ nearest
