use Rattle.fir_kernel.proofs.Groups.{low_turned}
use Rattle.fir_kernel.proofs.watched.low_of.Goals as goal

pub returns : goal.returns
returns c sums of_even of_odd = low_turned c.args.even c.args.odd sums of_even of_odd
