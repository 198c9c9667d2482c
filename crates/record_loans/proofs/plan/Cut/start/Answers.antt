use Rattle.std.proofs.Common.{rules}
use Rattle.record_loans.proofs.plan.Cut.start.Goals as goal

pub returns-in-InDaram : goal.returns-in-InDaram
returns-in-InDaram c = search rules
