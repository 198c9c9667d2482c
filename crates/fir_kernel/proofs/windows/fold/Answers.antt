use Rattle.fir_kernel.proofs.Lanes.{folded_is}
use Rattle.fir_kernel.proofs.windows.fold.Goals as goal

pub returns : goal.returns
returns c sum is = folded_is c.args.sums sum is
