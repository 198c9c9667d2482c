use Rattle.std.proofs.Common.{◌≡◌, ◌*ℤ◌, w16, w32, SFits, to_z, of_z, ◌∙◌, arith}
use Rattle.std.specs.Int.Signed.{nat_abs-le}
use Rattle.std.proofs.lemmas.Int.{to_z-of_z, fits_signed_from_abs}
use Rattle.alg_biquad.proofs.HalfLemmas.{half_of_product, product_within}
use Rattle.alg_biquad.proofs.halves.half_product.Goals as goal

pub returns-clause-half : goal.returns-clause-half
returns-clause-half c =
    let a = c.args.c in
    let b = c.args.v in
    let ea : to_z w32 (of_z w32 c.from-coefficient.result) ≡ a = to_z-of_z w32 c.from-coefficient.result (record { sfits = c.from-coefficient.type_inv }) ∙ c.from-coefficient.ensures ∙ to_z-of_z w16 a c.ranges.c in
    let eb : to_z w32 (of_z w32 c.from-word.result) ≡ b = to_z-of_z w32 c.from-word.result (record { sfits = c.from-word.type_inv }) ∙ c.from-word.ensures ∙ to_z-of_z w16 b c.ranges.v in
    let half = half_of_product a b c.requires (nat_abs-le b c.ranges.v.sfits) in
    let small = half.small in
    let fits : SFits w32 (a *ℤ b) = fits_signed_from_abs w32 (a *ℤ b) (omega arith) in
    rw (ea, eb, to_z-of_z w32 (a *ℤ b) fits) half

pub returns-clause-within : goal.returns-clause-within
returns-clause-within c =
    let a = c.args.c in
    let b = c.args.v in
    let ea : to_z w32 (of_z w32 c.from-coefficient.result) ≡ a = to_z-of_z w32 c.from-coefficient.result (record { sfits = c.from-coefficient.type_inv }) ∙ c.from-coefficient.ensures ∙ to_z-of_z w16 a c.ranges.c in
    let eb : to_z w32 (of_z w32 c.from-word.result) ≡ b = to_z-of_z w32 c.from-word.result (record { sfits = c.from-word.type_inv }) ∙ c.from-word.ensures ∙ to_z-of_z w16 b c.ranges.v in
    let half = half_of_product a b c.requires (nat_abs-le b c.ranges.v.sfits) in
    let small = half.small in
    let fits : SFits w32 (a *ℤ b) = fits_signed_from_abs w32 (a *ℤ b) (omega arith) in
    rw (ea, eb, to_z-of_z w32 (a *ℤ b) fits) (product_within a b c.requires (nat_abs-le b c.ranges.v.sfits))
