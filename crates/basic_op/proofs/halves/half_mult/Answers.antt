use Rattle.std.proofs.Common.{◌*ℤ◌, w16, w32, SFits, ◌∙◌}
use Rattle.std.specs.Int.Signed.{nat_abs-le}
use Rattle.std.proofs.lemmas.Int.{to_z-of_z}
use Rattle.basic_op.proofs.HalfLemmas.{product_small, half_product}
use Rattle.basic_op.proofs.halves.half_mult.Goals as goal

pub returns-clause-value : goal.returns-clause-value
returns-clause-value c =
    let a = c.args.a in
    let b = c.args.b in
    let fits : SFits w32 c.product.result = record { sfits = c.product.type_inv } in
    let product = rw (to_z-of_z w16 a c.ranges.a, to_z-of_z w16 b c.ranges.b) at c.product.ensures.value in
    let small = product_small a b (nat_abs-le a c.ranges.a.sfits) (nat_abs-le b c.ranges.b.sfits) c.requires.not_both_least in
    to_z-of_z w32 c.product.result fits ∙ product ∙ half_product (a *ℤ b) small

pub returns-clause-within : goal.returns-clause-within
returns-clause-within c = rw (to_z-of_z w32 c.product.result (record { sfits = c.product.type_inv })) c.product.ensures.within
