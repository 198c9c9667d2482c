use Rattle.std.proofs.Common.{refl}
use Rattle.ialg.proofs.memory.Lent.object.Goals as goal

pub returns : goal.returns
returns c = refl
