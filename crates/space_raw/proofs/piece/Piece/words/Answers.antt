use Rattle.std.proofs.Common.{arith}
use Rattle.space_raw.proofs.piece.Piece.words.Goals as goal

pub returns : goal.returns
returns c = grind arith
