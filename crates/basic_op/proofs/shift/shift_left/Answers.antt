use Rattle.std.proofs.Common.{rules, lit<, ◌≡◌, ◌≤◌, ◌^◌, min, ℤ, pos, negsuc, ◌*ℤ◌, unsigned_abs, w32, w64, SFits, to_z, of_z, ap, sym, ◌∙◌, arith}
use Rattle.std.specs.Int.Signed.{shr_z, lt_z}
use Rattle.std.proofs.lemmas.Int.{to_z-of_z, fits_signed_mul}
use Rattle.basic_op.specs.Operators.{floor_div, saturate32}
use Rattle.basic_op.proofs.Shifts.{shr_z-floor, floor_div-min, saturate-min, l_shl-negative, l_shl-positive}
use Rattle.basic_op.proofs.shift.shift_left.Goals as goal

pub returns-then-count-lt0 : goal.returns-then-count-lt0
returns-then-count-lt0 c =
    let v = c.args.v in
    let same = to_z-of_z w32 c.args.count c.ranges.count in
    let steps = c.min-steps.ensures ∙ ap (λ n. min n 31) (c.unsigned_abs.ensures.value ∙ ap unsigned_abs same) in
    let fits : SFits w32 (shr_z v (2 ^ c.min-steps.result)) = search rules in
    rw (to_z-of_z w32 v c.ranges.v, to_z-of_z w32 (shr_z v (2 ^ c.min-steps.result)) fits, shr_z-floor v (2 ^ c.min-steps.result))
    (ap (λ n. floor_div v (2 ^ n)) steps
    ∙ floor_div-min 31 (unsigned_abs c.args.count) v c.ranges.v.sfits
    ∙ sym (l_shl-negative v c.args.count (ap (λ z. lt_z z (pos 0)) (sym same) ∙ c.if-count-lt0.true)))

magnitude_of_word : (z : ℤ) → SFits w32 z → unsigned_abs z ≤ 2 ^ 31
magnitude_of_word (pos n) h = omega (arith, h.sfits)
magnitude_of_word (negsuc n) h = omega (arith, h.sfits)

pub returns-else-count-lt0 : goal.returns-else-count-lt0
returns-else-count-lt0 c =
    let v = c.from.result in
    let power = c.power_of_two.result in
    let fits_v : SFits w64 v = search rules in
    let fits_power : SFits w64 power = search rules in
    let fits_result : SFits w32 c.nearest_word32.result = search rules in
    let same_v : v ≡ c.args.v = c.from.ensures ∙ to_z-of_z w32 c.args.v c.ranges.v in
    let within : unsigned_abs v ≤ 2 ^ 31 = rw same_v (magnitude_of_word c.args.v c.ranges.v) in
    let fits : SFits w64 (v *ℤ power) = fits_signed_mul w64 v power (2 ^ 31) (2 ^ 31) within c.power_of_two.ensures.within (lit< tt) in
    let exact : to_z w64 (of_z w64 (to_z w64 (of_z w64 v) *ℤ to_z w64 (of_z w64 power))) ≡ v *ℤ power =
    rw (to_z-of_z w64 v fits_v, to_z-of_z w64 power fits_power) (to_z-of_z w64 (v *ℤ power) fits) in
    let same = to_z-of_z w32 c.args.count c.ranges.count in
    let steps = c.min-steps.ensures ∙ ap (λ n. min n 31) (c.unsigned_abs.ensures.value ∙ ap unsigned_abs same) in
    to_z-of_z w32 c.nearest_word32.result fits_result
    ∙ c.nearest_word32.ensures
    ∙ ap saturate32 exact
    ∙ ap (λ p. saturate32 (v *ℤ p)) c.power_of_two.ensures.value
    ∙ ap (λ n. saturate32 (v *ℤ pos (2 ^ n))) steps
    ∙ ap (λ z. saturate32 (z *ℤ pos (2 ^ min (unsigned_abs c.args.count) 31))) same_v
    ∙ saturate-min 31 (unsigned_abs c.args.count) c.args.v
    ∙ sym (l_shl-positive c.args.v c.args.count (ap (λ z. lt_z z (pos 0)) (sym same) ∙ c.if-count-lt0.false))
