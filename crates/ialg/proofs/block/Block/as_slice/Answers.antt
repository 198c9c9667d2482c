use Rattle.std.proofs.Common.{rules}
use Rattle.ialg.proofs.block.Block.as_slice.Goals as goal

pub returns-clause-value : goal.returns-clause-value
returns-clause-value c = search rules
