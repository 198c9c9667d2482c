use Rattle.fir_kernel.proofs.HalfLanes.{limits_four, limits_are}
use Rattle.fir_kernel.proofs.half_lanes.limited.Goals as goal

pub returns-clause-four : goal.returns-clause-four
returns-clause-four c = limits_four c.args.sums c.requires.four

pub returns-clause-values : goal.returns-clause-values
returns-clause-values c = limits_are c.args.sums c.requires.four c.requires.fit
