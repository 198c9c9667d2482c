use Rattle.std.proofs.Common.{w16, w32, SFits, to_z, of_z, rules, ap, ◌∙◌}
use Rattle.std.proofs.lemmas.Int.{to_z-of_z}
use Rattle.alg_tone.specs.Equation.{feedback_of}
use Rattle.alg_tone.proofs.Limits.{clamped}
use Rattle.alg_tone.proofs.kernel.Tuning.feedback.Goals as goal

pub returns : goal.returns
returns c =
    let whole = c.whole_feedback-whole.result in
    let least = to_z-of_z w32 c.from-least.result (record { sfits = c.from-least.type_inv }) ∙ c.from-least.ensures in
    let most = to_z-of_z w32 c.from-most.result (record { sfits = c.from-most.type_inv }) ∙ c.from-most.ensures in
    let limited = rw (to_z-of_z w32 whole (record { sfits = c.whole_feedback-whole.type_inv }), least, most) at c.clamp.ensures.value in
    let word : SFits w16 (to_z w32 (of_z w32 c.clamp.result)) = search rules in
    to_z-of_z w16 (to_z w32 (of_z w32 c.clamp.result)) word ∙ to_z-of_z w32 c.clamp.result (record { sfits = c.clamp.type_inv })
    ∙ limited ∙ clamped whole ∙ c.whole_feedback-whole.ensures.value
    ∙ ap (feedback_of c.args.self.factor) (to_z-of_z w16 c.args.v c.ranges.v)
