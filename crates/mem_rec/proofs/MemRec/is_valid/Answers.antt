use Rattle.std.proofs.Common.{arith}
use Rattle.std.proofs.lemmas.Bool.Decides.{nat_tests}
use Rattle.mem_rec.proofs.MemRec.is_valid.Goals as goal

pub returns-then-contains : goal.returns-then-contains
returns-then-contains c = grind (arith, nat_tests)

pub returns-else-contains : goal.returns-else-contains
returns-else-contains c = grind (arith, nat_tests)
