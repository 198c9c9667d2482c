use Rattle.alg_g711.proofs.Samples.{lies_in_one}
use Rattle.alg_g711.proofs.laws.intervals_divide_samples.Goals as goal

pub returns : goal.returns
returns c law x fits = lies_in_one law x fits
