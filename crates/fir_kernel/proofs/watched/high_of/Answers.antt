use Rattle.fir_kernel.proofs.Groups.{high_turned}
use Rattle.fir_kernel.proofs.watched.high_of.Goals as goal

pub returns : goal.returns
returns c sums of_even of_odd = high_turned c.args.even c.args.odd sums of_even of_odd
