use Rattle.std.proofs.Common.{rules}
use Rattle.scratch_group.proofs.group.Group.set_active.Goals as goal

pub returns-then-is_some-clause-activations : goal.returns-then-is_some-clause-activations
returns-then-is_some-clause-activations c = search rules
