use Rattle.std.proofs.Common.{◌^◌, w16, w32, SFits, arith, refl}
use Rattle.std.specs.Int.Signed.{shr_z, mag_shr}
use Rattle.std.proofs.lemmas.Int.{to_z-of_z}
use Rattle.basic_op.proofs.Shifts.{shr_z-floor}
use Rattle.basic_op.proofs.short.mult.Goals as goal

pub returns : goal.returns
returns c =
    let z = c.product.result in
    let fits : SFits w32 (shr_z z (2 ^ 15)) = record { sfits = omega (arith, mag_shr z (2 ^ 15), c.product.type_inv) } in
    rw (to_z-of_z w16 c.nearest_word16.result (record { sfits = c.nearest_word16.type_inv }), c.nearest_word16.ensures, to_z-of_z w32 z (record { sfits = c.product.type_inv }), to_z-of_z w32 (shr_z z (2 ^ 15)) fits, shr_z-floor z (2 ^ 15), c.product.ensures.value, to_z-of_z w16 c.args.a c.ranges.a, to_z-of_z w16 c.args.b c.ranges.b)
    refl
