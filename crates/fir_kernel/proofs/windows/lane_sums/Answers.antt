use Rattle.fir_kernel.proofs.Lanes.{summed_is}
use Rattle.fir_kernel.proofs.windows.lane_sums.Goals as goal

pub returns : goal.returns
returns c s t u v has_a has_b has_c has_d = summed_is c.args.a c.args.b c.args.c c.args.d s t u v has_a has_b has_c has_d
