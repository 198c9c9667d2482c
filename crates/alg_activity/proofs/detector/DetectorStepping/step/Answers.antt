use Rattle.std.proofs.Common.{◌∙◌, rules, w16, w32, FitsSigned, sym, ap, ap₂}
use Rattle.std.proofs.lemmas.Int.{to_z-of_z}
use Rattle.ialg.specs.History.{word_at}
use Rattle.alg_activity.specs.Equation.{heard, next, told_of}
use Rattle.alg_activity.specs.Keeps.{heard_words}
use Rattle.alg_activity.specs.Sizes.{some_samples}
use Rattle.alg_activity.proofs.Frames.{heard_more}
use Rattle.alg_activity.proofs.detector.DetectorStepping.step.Goals as goal

pub returns-clause-state : goal.returns-clause-state
returns-clause-state c xs e =
    let p = c.args.p.now in
    let s = heard p xs in
    let fs : FitsSigned w16 (word_at p 1) = search rules in
    let fe : FitsSigned w32 c.energy-energy.result = search rules in
    let energy = rw (to_z-of_z w16 (word_at p 1) fs) at c.energy-energy.ensures in
    let before = c.read-before.ensures s.floor s.left e in
    let next_is = rw (to_z-of_z w32 c.energy-energy.result fe) at c.next-after.ensures in
    let more = heard_more p c.args.samples.now xs (some_samples p c.requires.takes) c.requires.whole in
    let after = next_is ∙ ap₂ (next p) energy before ∙ sym more in
    c.write.ensures ∙ ap heard_words after

pub returns-clause-told : goal.returns-clause-told
returns-clause-told c xs e =
    let p = c.args.p.now in
    let s = heard p xs in
    let fs : FitsSigned w16 (word_at p 1) = search rules in
    let fe : FitsSigned w32 c.energy-energy.result = search rules in
    let energy = rw (to_z-of_z w16 (word_at p 1) fs) at c.energy-energy.ensures in
    let before = c.read-before.ensures s.floor s.left e in
    let next_is = rw (to_z-of_z w32 c.energy-energy.result fe) at c.next-after.ensures in
    let more = heard_more p c.args.samples.now xs (some_samples p c.requires.takes) c.requires.whole in
    let after = next_is ∙ ap₂ (next p) energy before ∙ sym more in
    let ft : FitsSigned w16 c.told.result = search rules in
    to_z-of_z w16 c.told.result ft ∙ c.told.ensures ∙ ap told_of after
