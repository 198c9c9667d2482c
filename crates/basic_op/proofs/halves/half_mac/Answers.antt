use Rattle.std.proofs.Common.{◌*ℤ◌, ◌+ℤ◌, w16, w32, SFits, ◌∙◌, arith}
use Rattle.std.specs.Int.Signed.{nat_abs-le}
use Rattle.std.proofs.lemmas.Int.{ints, to_z-of_z, fits_signed_from_abs}
use Rattle.basic_op.proofs.HalfLemmas.{product_small, half_add, half_limited, sum_fits}
use Rattle.basic_op.proofs.halves.half_mac.Goals as goal

pub returns-clause-value : goal.returns-clause-value
returns-clause-value c v e =
    let a = c.args.a in
    let b = c.args.b in
    let half = c.args.half in
    let p = c.product.result in
    let fp : SFits w32 p = record { sfits = c.product.type_inv } in
    let product = rw (to_z-of_z w16 a c.ranges.a, to_z-of_z w16 b c.ranges.b) at c.product.ensures.value in
    let small = product_small a b (nat_abs-le a c.ranges.a.sfits) (nat_abs-le b c.ranges.b.sfits) c.requires.not_both_least in
    let within = c.requires.within in
    let fits : SFits w32 (half +ℤ p) = fits_signed_from_abs w32 (half +ℤ p) (rw product (omega (arith, ints))) in
    let near = rw (to_z-of_z w32 half c.ranges.half, to_z-of_z w32 p fp, to_z-of_z w32 (half +ℤ p) fits, product, e) at c.nearest_half.ensures in
    to_z-of_z w32 c.nearest_half.result (record { sfits = c.nearest_half.type_inv }) ∙ near ∙ half_add v (a *ℤ b) small

pub returns-clause-within : goal.returns-clause-within
returns-clause-within c = half_limited c.nearest_half.result _ (record { sfits = c.nearest_half.type_inv }) c.nearest_half.ensures

pub overflow_add-half : goal.overflow_add-half
overflow_add-half c =
    let a = c.args.a in
    let b = c.args.b in
    let product = rw (to_z-of_z w16 a c.ranges.a, to_z-of_z w16 b c.ranges.b) at c.product.ensures.value in
    let small = product_small a b (nat_abs-le a c.ranges.a.sfits) (nat_abs-le b c.ranges.b.sfits) c.requires.not_both_least in
    sum_fits c.args.half c.product.result c.ranges.half (record { sfits = c.product.type_inv }) c.requires.within (rw product small)
