use Rattle.std.proofs.Common.{rules}
use Rattle.scratch_group.proofs.plan.active_plan.Goals as goal

pub returns-clause-value : goal.returns-clause-value
returns-clause-value c = search rules
