use Rattle.std.proofs.Common.{◌≤◌, ◌^◌, ℤ, pos, ◌+ℤ◌, unsigned_abs, w16, w32, SFits, arith, refl}
use Rattle.std.specs.Int.Signed.{shr_z, mag_shr}
use Rattle.std.proofs.lemmas.Int.{to_z-of_z, ints}
use Rattle.basic_op.proofs.Shifts.{shr_z-floor}
use Rattle.basic_op.proofs.short.mult_r.Goals as goal

sum_fits : (z : ℤ) → unsigned_abs z ≤ 2 ^ 30 → SFits w32 (z +ℤ pos 16384)
sum_fits z h = grind (arith, ints)

pub overflow_add-product : goal.overflow_add-product
overflow_add-product c =
    rw (to_z-of_z w32 c.product.result (record { sfits = c.product.type_inv })) (sum_fits c.product.result c.product.ensures.within)

pub returns : goal.returns
returns c =
    let z = c.product.result +ℤ pos 16384 in
    let fits_sum : SFits w32 z = sum_fits c.product.result c.product.ensures.within in
    let fits : SFits w32 (shr_z z (2 ^ 15)) = record { sfits = omega (arith, mag_shr z (2 ^ 15), fits_sum.sfits) } in
    rw (to_z-of_z w16 c.nearest_word16.result (record { sfits = c.nearest_word16.type_inv }), c.nearest_word16.ensures, to_z-of_z w32 c.product.result (record { sfits = c.product.type_inv }), to_z-of_z w32 z fits_sum, to_z-of_z w32 (shr_z z (2 ^ 15)) fits, shr_z-floor z (2 ^ 15), c.product.ensures.value, to_z-of_z w16 c.args.a c.ranges.a, to_z-of_z w16 c.args.b c.ranges.b)
    refl
