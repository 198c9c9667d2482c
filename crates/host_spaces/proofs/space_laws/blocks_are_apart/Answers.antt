use Rattle.host_spaces.proofs.Counting.{apart_blocks}
use Rattle.host_spaces.proofs.space_laws.blocks_are_apart.Goals as goal

pub returns : goal.returns
returns c = apart_blocks
