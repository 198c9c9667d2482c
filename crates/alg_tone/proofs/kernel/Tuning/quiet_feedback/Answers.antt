use Rattle.std.proofs.Common.{rules, ◌≡◌, ◌*ℤ◌, w16, w32, SFits, to_z, of_z, ◌∙◌, arith}
use Rattle.std.proofs.lemmas.Int.{to_z-of_z, fits_signed_from_abs}
use lib.Signed.{shr_z}
use Rattle.alg_tone.proofs.Limits.{one_limit, quiet_product, shifted_quiet}
use Rattle.alg_tone.proofs.kernel.Tuning.quiet_feedback.Goals as goal

pub overflow_mul-result : goal.overflow_mul-result
overflow_mul-result c =
    let k = c.args.self.factor in
    let v = c.args.v in
    let fk : SFits w16 k = search rules in
    let factor : to_z w32 (of_z w32 c.from-factor.result) ≡ k =
    to_z-of_z w32 c.from-factor.result (record { sfits = c.from-factor.type_inv }) ∙ c.from-factor.ensures ∙ to_z-of_z w16 k fk in
    let quiet = quiet_product k v fk c.requires in
    rw (factor, to_z-of_z w32 v c.ranges.v) (fits_signed_from_abs w32 (k *ℤ v) (omega (arith, quiet)))

pub returns : goal.returns
returns c =
    let k = c.args.self.factor in
    let v = c.args.v in
    let fk : SFits w16 k = search rules in
    let factor : to_z w32 (of_z w32 c.from-factor.result) ≡ k =
    to_z-of_z w32 c.from-factor.result (record { sfits = c.from-factor.type_inv }) ∙ c.from-factor.ensures ∙ to_z-of_z w16 k fk in
    let value : to_z w32 (of_z w32 v) ≡ v = to_z-of_z w32 v c.ranges.v in
    let quiet = quiet_product k v fk c.requires in
    let few = shifted_quiet (k *ℤ v) quiet in
    let fits : SFits w32 (k *ℤ v) = fits_signed_from_abs w32 (k *ℤ v) (omega (arith, quiet)) in
    let shifted : SFits w32 (shr_z (k *ℤ v) 16384) = fits_signed_from_abs w32 (shr_z (k *ℤ v) 16384) (omega (arith, few)) in
    rw (factor, value, to_z-of_z w32 (k *ℤ v) fits, to_z-of_z w32 (shr_z (k *ℤ v) 16384) shifted) (record { value = one_limit (k *ℤ v) (omega (arith, quiet)); within = few })
