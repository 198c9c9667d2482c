use Rattle.std.proofs.Common.{rules}
use Rattle.scratch_group.proofs.group.Group.need.Goals as goal

pub returns-else-need-size : goal.returns-else-need-size
returns-else-need-size c = search rules
