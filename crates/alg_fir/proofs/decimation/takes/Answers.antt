use Rattle.std.proofs.Common.{rules}
use Rattle.alg_fir.proofs.decimation.takes.Goals as goal

pub returns-then-p-ge1 : goal.returns-then-p-ge1
returns-then-p-ge1 c = search rules
