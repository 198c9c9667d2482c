use Rattle.std.proofs.Common.{arith}
use Rattle.mem_rec.proofs.MemTab.len.Goals as goal

pub returns-clause-value : goal.returns-clause-value
returns-clause-value c = grind arith
