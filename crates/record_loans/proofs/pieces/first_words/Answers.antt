use Rattle.std.proofs.Common.{rules}
use Rattle.record_loans.proofs.pieces.first_words.Goals as goal

pub returns-in-Some : goal.returns-in-Some
returns-in-Some c = search rules
