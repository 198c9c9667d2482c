use Rattle.std.proofs.Common.{◌≡◌, ◌*ℤ◌, w16, w32, SFits, to_z, of_z, rules, ◌∙◌, arith}
use Rattle.std.proofs.lemmas.Int.{to_z-of_z, fits_signed_from_abs}
use lib.Signed.{shr_z}
use Rattle.alg_tone.proofs.Limits.{one_limit, shifted_small, small_product}
use Rattle.alg_tone.proofs.kernel.Tuning.whole_feedback.Goals as goal

pub returns : goal.returns
returns c =
    let k = c.args.self.factor in
    let v = c.args.v in
    let fk : SFits w16 k = search rules in
    let factor : to_z w32 (of_z w32 c.from-factor.result) ≡ k =
    to_z-of_z w32 c.from-factor.result (record { sfits = c.from-factor.type_inv }) ∙ c.from-factor.ensures ∙ to_z-of_z w16 k fk in
    let value : to_z w32 (of_z w32 c.from-value.result) ≡ v =
    to_z-of_z w32 c.from-value.result (record { sfits = c.from-value.type_inv }) ∙ c.from-value.ensures ∙ to_z-of_z w16 v c.ranges.v in
    let small = small_product k v fk c.ranges.v in
    let few = shifted_small (k *ℤ v) small in
    let fits : SFits w32 (k *ℤ v) = fits_signed_from_abs w32 (k *ℤ v) (omega arith) in
    let shifted : SFits w32 (shr_z (k *ℤ v) 16384) = fits_signed_from_abs w32 (shr_z (k *ℤ v) 16384) (omega arith) in
    rw (factor, value, to_z-of_z w32 (k *ℤ v) fits, to_z-of_z w32 (shr_z (k *ℤ v) 16384) shifted) (record { value = one_limit (k *ℤ v) small; within = few })
