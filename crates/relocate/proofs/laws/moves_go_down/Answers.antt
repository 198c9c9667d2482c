use Rattle.relocate.proofs.CompactionLemmas.{next_move_down}
use Rattle.relocate.proofs.laws.moves_go_down.Goals as goal

pub returns : goal.returns
returns c = next_move_down
