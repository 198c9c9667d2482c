use Rattle.std.proofs.Common.{rules}
use Rattle.record_loans.proofs.pieces.Pieces.take.Goals as goal

pub returns-in-1-clause-piece : goal.returns-in-1-clause-piece
returns-in-1-clause-piece c = search rules

pub returns-in-1-clause-left : goal.returns-in-1-clause-left
returns-in-1-clause-left c = search rules
