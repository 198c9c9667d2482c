use Rattle.std.proofs.Common.{arith}
use Rattle.ialg.proofs.memory.Lent.put.Goals as goal

pub returns-in_default-clause-back : goal.returns-in_default-clause-back
returns-in_default-clause-back c = grind arith

pub returns-in_default-clause-others : goal.returns-in_default-clause-others
returns-in_default-clause-others c = grind arith
