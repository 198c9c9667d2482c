use Rattle.std.proofs.Common.{rules}
use Rattle.scratch_group.proofs.plan.sharing_sizes.Goals as goal

pub returns-clause-sizes : goal.returns-clause-sizes
returns-clause-sizes c = search rules
