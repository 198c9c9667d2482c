use Rattle.std.proofs.Common.{refl}
use Rattle.ialg.proofs.block.Block.clear.Goals as goal

pub returns : goal.returns
returns c = refl
