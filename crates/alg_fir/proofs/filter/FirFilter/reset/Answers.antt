use Rattle.std.proofs.Common.{rules}
use Rattle.alg_fir.proofs.filter.FirFilter.reset.Goals as goal

pub returns : goal.returns
returns c = search rules
