use Rattle.std.proofs.Common.{arith}
use Rattle.space_raw.proofs.piece.Piece.len.Goals as goal

pub returns-clause-value : goal.returns-clause-value
returns-clause-value c = grind arith
