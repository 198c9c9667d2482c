use Rattle.fir_kernel.proofs.HalfEights.{limits_eight, limits_are}
use Rattle.fir_kernel.proofs.half_eights.limited.Goals as goal

pub returns-clause-eight : goal.returns-clause-eight
returns-clause-eight c = limits_eight c.args.sums c.requires.eight

pub returns-clause-values : goal.returns-clause-values
returns-clause-values c = limits_are c.args.sums c.requires.eight c.requires.fit
