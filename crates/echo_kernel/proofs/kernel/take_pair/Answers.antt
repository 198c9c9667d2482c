use Rattle.std.proofs.Common.{◌∙◌, rules, w16, FitsSigned}
use Rattle.std.proofs.lemmas.Int.{to_z-of_z}
use Rattle.ialg.specs.History.{word_at}
use Rattle.echo_kernel.specs.Equation.{heard_pair, taught, left_of}
use Rattle.echo_kernel.proofs.kernel.take_pair.Goals as goal

pub returns : goal.returns
returns c s ef is =
    let p = c.args.p.now in
    let x = c.args.pair.far in
    let n = c.args.pair.near in
    let fx : FitsSigned w16 x = search rules in
    let fn : FitsSigned w16 n = search rules in
    let ex = to_z-of_z w16 x fx in
    let en = to_z-of_z w16 n fn in
    let fp : FitsSigned w16 (word_at p 1) = search rules in
    let fl : FitsSigned w16 c.hear-left.result.1 = search rules in
    let fg : FitsSigned w16 c.hear-left.result.2 = search rules in
    let law = rw (ex, en) at c.hear-left.ensures in
    let h = law s c.args.low.now ef is in
    let heard = heard_pair p x n s in
    let teach = rw (to_z-of_z w16 (word_at p 1) fp, to_z-of_z w16 c.hear-left.result.1 fl) at c.teach.ensures in
    let learns = rw h.2 at (teach heard c.args.used.now h.0 h.1) in (
      h.0,
      c.choose-after.ensures (taught (word_at p 1) (left_of x n s) heard) learns,
      to_z-of_z w16 c.hear-left.result.2 fg ∙ h.3,
    )
