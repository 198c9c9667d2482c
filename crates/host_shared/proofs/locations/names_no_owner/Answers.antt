use Rattle.std.proofs.lemmas.Grind.{common_steps}
use Rattle.std.proofs.Common.{arith}
use Rattle.host_shared.proofs.locations.names_no_owner.Goals as goal

pub loop-t-preserved : goal.loop-t-preserved
loop-t-preserved c = grind (arith, common_steps)
