use Rattle.std.proofs.Common.{arith}
use Rattle.std.proofs.lemmas.Grind.{common_steps}
use Rattle.fir_kernel.proofs.watched.room_of.Goals as goal

pub returns-then-reach-lt-LEAST_UNBOUNDED_SUM : goal.returns-then-reach-lt-LEAST_UNBOUNDED_SUM
returns-then-reach-lt-LEAST_UNBOUNDED_SUM c = grind (arith, common_steps)
