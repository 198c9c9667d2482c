use Rattle.std.proofs.Common.{rules, ◌∙◌, ap, w16, w32, SFits, of_z, lit<, refl}
use Rattle.std.specs.Int.Signed.{mag}
use Rattle.std.specs.Int.Count.{count_leading_zeros}
use Rattle.std.proofs.lemmas.Int.{to_z-of_z}
use Rattle.basic_op.proofs.Norms.{CountsNorm, leading-norm}
use Rattle.basic_op.proofs.norm.norm_s.Goals as goal

counts : (c : goal.After-sign_folded) → CountsNorm 15 17 (count_leading_zeros 32 c.sign_folded.result) c.args.a
counts c =
    let fits : SFits w32 c.from.result = search rules in
    let same = c.sign_folded.ensures ∙ ap mag (to_z-of_z w32 c.from.result fits ∙ c.from.ensures ∙ to_z-of_z w16 c.args.a c.ranges.a) in
    leading-norm 15 17 c.sign_folded.result c.args.a (lit< tt) refl same c.ranges.a.sfits (λ e. c.if-a-eq0.false (ap (of_z w16) e))

pub overflow_sub-result : goal.overflow_sub-result
overflow_sub-result c = (counts c).enough

pub returns-else-a-eq0 : goal.returns-else-a-eq0
returns-else-a-eq0 c = (counts c).value
