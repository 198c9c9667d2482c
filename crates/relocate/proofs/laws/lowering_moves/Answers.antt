use Rattle.relocate.proofs.Lowers.{next_lowered, ranges_moved}
use Rattle.relocate.proofs.laws.lowering_moves.Goals as goal

pub returns : goal.returns
returns c = record { place = next_lowered; blocks = ranges_moved }
