use Rattle.std.proofs.Common.{rules, ◌≡◌, ◌+ℤ◌, ◌-ℤ◌, ◌≤◌, unsigned_abs, w16, w32, SFits, to_z, of_z, ap, ◌∙◌, arith}
use Rattle.std.proofs.lemmas.Int.{ints, to_z-of_z, fits_signed_from_abs}
use Rattle.std.specs.Int.Signed.{nat_abs-le}
use Rattle.basic_op.specs.Operators.{add_of, sub_of}
use Rattle.alg_tone.specs.Equation.{feedback_of}
use Rattle.alg_tone.proofs.Limits.{no_limits, shifted_half}
use Rattle.alg_tone.proofs.kernel.Tuning.quiet_value.Goals as goal

pub returns-then-is_quiet-clause-value : goal.returns-then-is_quiet-clause-value
returns-then-is_quiet-clause-value c =
    let k = c.args.self.factor in
    let v1 = c.args.v1 in
    let v2 = c.args.v2 in
    let y = c.in_ok-shifted.shifted in
    let f = c.quiet_feedback.result in
    let fy : SFits w16 y = search rules in
    let sample : to_z w32 (of_z w32 c.from-sample.result) ≡ y =
    to_z-of_z w32 c.from-sample.result (record { sfits = c.from-sample.type_inv }) ∙ c.from-sample.ensures ∙ to_z-of_z w16 y fy in
    let older : to_z w32 (of_z w32 v2) ≡ v2 = to_z-of_z w32 v2 c.ranges.v2 in
    let feedback : to_z w32 (of_z w32 f) ≡ f = to_z-of_z w32 f (record { sfits = c.quiet_feedback.type_inv }) in
    let shifted = rw (to_z-of_z w16 c.args.x c.ranges.x) at c.in_ok-shifted.ensures in
    let few_f = c.quiet_feedback.ensures.within in
    let few_v = nat_abs-le v2 c.requires.word.sfits in
    let few_y : unsigned_abs y ≤ 16385 = rw shifted (shifted_half c.args.x c.args.self.shift c.ranges.x c.requires.shifts) in
    let left : SFits w32 (y -ℤ v2) = fits_signed_from_abs w32 (y -ℤ v2) (omega (arith, ints, few_y, few_v)) in
    let value : SFits w32 ((y -ℤ v2) +ℤ f) = fits_signed_from_abs w32 ((y -ℤ v2) +ℤ f) (omega (arith, ints, few_y, few_v, few_f)) in
    let quiet = rw (sample, older, feedback, to_z-of_z w32 (y -ℤ v2) left, to_z-of_z w32 ((y -ℤ v2) +ℤ f) value) at (c.is_quiet.ensures c.if-is_quiet.true) in
    let regroup : (y -ℤ v2) +ℤ f ≡ (y +ℤ f) -ℤ v2 = omega (arith, ints) in
    let first : SFits w16 f = fits_signed_from_abs w16 f (omega (arith, few_f)) in
    let second : SFits w16 (y +ℤ f) = fits_signed_from_abs w16 (y +ℤ f) (omega (arith, ints, few_y, few_f)) in
    let third : SFits w16 ((y +ℤ f) -ℤ v2) = fits_signed_from_abs w16 ((y +ℤ f) -ℤ v2) (omega (arith, ints, quiet)) in
    let limited = rw (to_z-of_z w32 v1 c.ranges.v1) at c.quiet_feedback.ensures.value in
    rw (sample, older, feedback, to_z-of_z w32 (y -ℤ v2) left, to_z-of_z w32 ((y -ℤ v2) +ℤ f) value)
    (regroup ∙ no_limits y f v2 (feedback_of k v1) limited first second third
    ∙ ap (λ x. sub_of (add_of x (feedback_of k v1)) v2) shifted)
