use Rattle.std.proofs.Common.{rules, ◌≡◌, ◌+ℤ◌, ◌-ℤ◌, w16, w32, SFits, to_z, of_z, ap, ◌∙◌, arith}
use Rattle.std.proofs.lemmas.Int.{ints, to_z-of_z, fits_signed_from_abs}
use Rattle.std.specs.Int.Signed.{nat_abs-le}
use Rattle.basic_op.specs.Operators.{add_of, sub_of}
use Rattle.alg_tone.specs.Equation.{feedback_of}
use Rattle.alg_tone.proofs.Limits.{no_limits}
use Rattle.alg_tone.proofs.kernel.Tuning.plain_value.Goals as goal

pub overflow_add-sum : goal.overflow_add-sum
overflow_add-sum c =
    let y = c.in_ok-shifted.shifted in
    let f = c.whole_feedback-feedback.result in
    let fy : SFits w16 y = search rules in
    let sample : to_z w32 (of_z w32 c.from-sample.result) ≡ y =
    to_z-of_z w32 c.from-sample.result (record { sfits = c.from-sample.type_inv }) ∙ c.from-sample.ensures ∙ to_z-of_z w16 y fy in
    let feedback : to_z w32 (of_z w32 f) ≡ f = to_z-of_z w32 f (record { sfits = c.whole_feedback-feedback.type_inv }) in
    let few_y = nat_abs-le y fy.sfits in
    rw (sample, feedback) (fits_signed_from_abs w32 (y +ℤ f) (omega (arith, ints, few_y, c.whole_feedback-feedback.ensures.within)))

pub overflow_sub-value : goal.overflow_sub-value
overflow_sub-value c =
    let y = c.in_ok-shifted.shifted in
    let v2 = c.args.frame.v2 in
    let f = c.whole_feedback-feedback.result in
    let fy : SFits w16 y = search rules in
    let f2 : SFits w16 v2 = search rules in
    let sample : to_z w32 (of_z w32 c.from-sample.result) ≡ y =
    to_z-of_z w32 c.from-sample.result (record { sfits = c.from-sample.type_inv }) ∙ c.from-sample.ensures ∙ to_z-of_z w16 y fy in
    let older : to_z w32 (of_z w32 c.from-older.result) ≡ v2 =
    to_z-of_z w32 c.from-older.result (record { sfits = c.from-older.type_inv }) ∙ c.from-older.ensures ∙ to_z-of_z w16 v2 f2 in
    let feedback : to_z w32 (of_z w32 f) ≡ f = to_z-of_z w32 f (record { sfits = c.whole_feedback-feedback.type_inv }) in
    let few_y = nat_abs-le y fy.sfits in
    let few_v = nat_abs-le v2 f2.sfits in
    let few_f = c.whole_feedback-feedback.ensures.within in
    let sum : SFits w32 (y +ℤ f) = fits_signed_from_abs w32 (y +ℤ f) (omega (arith, ints, few_y, few_f)) in
    rw (sample, older, feedback, to_z-of_z w32 (y +ℤ f) sum) (fits_signed_from_abs w32 ((y +ℤ f) -ℤ v2) (omega (arith, ints, few_y, few_f, few_v)))

pub returns-then-are_words : goal.returns-then-are_words
returns-then-are_words c =
    let k = c.args.self.factor in
    let v1 = c.args.frame.v1 in
    let v2 = c.args.frame.v2 in
    let y = c.in_ok-shifted.shifted in
    let f = c.whole_feedback-feedback.result in
    let fy : SFits w16 y = search rules in
    let f1 : SFits w16 v1 = search rules in
    let f2 : SFits w16 v2 = search rules in
    let sample : to_z w32 (of_z w32 c.from-sample.result) ≡ y =
    to_z-of_z w32 c.from-sample.result (record { sfits = c.from-sample.type_inv }) ∙ c.from-sample.ensures ∙ to_z-of_z w16 y fy in
    let older : to_z w32 (of_z w32 c.from-older.result) ≡ v2 =
    to_z-of_z w32 c.from-older.result (record { sfits = c.from-older.type_inv }) ∙ c.from-older.ensures ∙ to_z-of_z w16 v2 f2 in
    let feedback : to_z w32 (of_z w32 f) ≡ f = to_z-of_z w32 f (record { sfits = c.whole_feedback-feedback.type_inv }) in
    let within = c.whole_feedback-feedback.ensures.within in
    let few_y = nat_abs-le y fy.sfits in
    let few_v = nat_abs-le v2 f2.sfits in
    let sum : SFits w32 (y +ℤ f) = fits_signed_from_abs w32 (y +ℤ f) (omega (arith, ints)) in
    let value : SFits w32 ((y +ℤ f) -ℤ v2) = fits_signed_from_abs w32 ((y +ℤ f) -ℤ v2) (omega (arith, ints)) in
    let words = rw (sample, older, feedback, to_z-of_z w32 (y +ℤ f) sum, to_z-of_z w32 ((y +ℤ f) -ℤ v2) value)
    at (c.are_words.ensures c.if-are_words.true) in
    let limited = rw (to_z-of_z w16 v1 f1) at c.whole_feedback-feedback.ensures.value in
    let shifted = rw (to_z-of_z w16 c.args.x c.ranges.x) at c.in_ok-shifted.ensures in
    rw (sample, older, feedback, to_z-of_z w32 (y +ℤ f) sum, to_z-of_z w32 ((y +ℤ f) -ℤ v2) value)
    (to_z-of_z w16 ((y +ℤ f) -ℤ v2) words.2 ∙ no_limits y f v2 (feedback_of k v1) limited words.0 words.1 words.2
    ∙ ap (λ x. sub_of (add_of x (feedback_of k v1)) v2) shifted)

pub overflow_cast-result : goal.overflow_cast-result
overflow_cast-result c = (c.are_words.ensures c.if-are_words.true).2
