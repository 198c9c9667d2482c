use Rattle.std.proofs.Common.{rules}
use Rattle.host_spaces.proofs.spaces.Spaces.copied.Goals as goal

pub returns : goal.returns
returns c = search rules
