use Rattle.std.proofs.Common.{arith}
use Rattle.mem_rec.proofs.MemRec.is_scratch_of.Goals as goal

pub returns-then-eq : goal.returns-then-eq
returns-then-eq c = grind arith

pub returns-else-eq : goal.returns-else-eq
returns-else-eq c = grind arith
