use Rattle.std.proofs.Common.{arith}
use Rattle.alg_g711.proofs.Dividing.{middle_is}
use Rattle.alg_g711.proofs.Computed.{middle}
use Rattle.alg_g711.proofs.companding.middle_sample.Goals as goal

pub overflow_sub-result : goal.overflow_sub-result
overflow_sub-result c = rw (c.lower_end.ensures, c.step_width-width.ensures.width, c.in-Mu.is) (middle c.args.law c.args.number c.requires).biased

pub returns-in-Mu-clause-value : goal.returns-in-Mu-clause-value
returns-in-Mu-clause-value c = let here = middle_is c.args.law c.args.number c.requires in grind (arith, here)

pub returns-in-A-clause-value : goal.returns-in-A-clause-value
returns-in-A-clause-value c = let here = middle_is c.args.law c.args.number c.requires in grind (arith, here)
