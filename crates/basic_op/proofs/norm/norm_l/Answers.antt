use Rattle.std.proofs.Common.{◌∙◌, ap, w32, of_z, lit<, refl}
use Rattle.std.specs.Int.Signed.{mag}
use Rattle.std.specs.Int.Count.{count_leading_zeros}
use Rattle.std.proofs.lemmas.Int.{to_z-of_z}
use Rattle.basic_op.proofs.Norms.{CountsNorm, leading-norm}
use Rattle.basic_op.proofs.norm.norm_l.Goals as goal

counts : (c : goal.After-sign_folded) → CountsNorm 31 1 (count_leading_zeros 32 c.sign_folded.result) c.args.v
counts c =
    leading-norm 31 1 c.sign_folded.result c.args.v (lit< tt) refl (c.sign_folded.ensures ∙ ap mag (to_z-of_z w32 c.args.v c.ranges.v)) c.ranges.v.sfits
    (λ e. c.if-v-eq0.false (ap (of_z w32) e))

pub overflow_sub-result : goal.overflow_sub-result
overflow_sub-result c = (counts c).enough

pub returns-else-v-eq0 : goal.returns-else-v-eq0
returns-else-v-eq0 c = (counts c).value
