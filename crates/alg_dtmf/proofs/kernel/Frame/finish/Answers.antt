use Rattle.std.proofs.Common.{◌∙◌, rules, refl, sym, ap}
use Rattle.std.proofs.lemmas.Int.{to_z-of_z}
use mir.Val.{SFits, to_z, of_z}
use mir.Syntax.{w16}
use Rattle.ialg.specs.History.{word_at}
use Rattle.alg_dtmf.proofs.kernel.Frame.finish.Goals as goal

pub returns-then-self-p-clause-full : goal.returns-then-self-p-clause-full
returns-then-self-p-clause-full c =
    let code = to_z-of_z w16 c.code.result (record { sfits = c.code.type_inv }) in
    λ same. (refl, rw (c.push.ensures.items, code, c.code.ensures) refl)

pub returns-then-self-p-clause-unfinished : goal.returns-then-self-p-clause-unfinished
returns-then-self-p-clause-unfinished c =
    let n = c.args.self.samples in
    let most = word_at c.args.p.now 0 in
    let fn : SFits w16 n = search rules in
    let fmost : SFits w16 most = search rules in
    λ other. absurd (other (sym (to_z-of_z w16 n fn) ∙ ap (to_z w16) c.if-self-p.true ∙ to_z-of_z w16 most fmost))

pub returns-else-self-p-clause-full : goal.returns-else-self-p-clause-full
returns-else-self-p-clause-full c = λ same. absurd (c.if-self-p.false (ap (of_z w16) same))

pub returns-else-self-p-clause-unfinished : goal.returns-else-self-p-clause-unfinished
returns-else-self-p-clause-unfinished c = λ other. (refl, refl)
