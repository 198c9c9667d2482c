use Rattle.std.proofs.Common.{rules}
use Rattle.record_loans.proofs.plan.Cut.take.Goals as goal

pub returns-in-Shared : goal.returns-in-Shared
returns-in-Shared c = search rules
