use Rattle.std.proofs.Common.{arith}
use Rattle.alg_fir.proofs.decimation.taken_of.Goals as goal

pub returns-clause-first : goal.returns-clause-first
returns-clause-first c = omega arith
