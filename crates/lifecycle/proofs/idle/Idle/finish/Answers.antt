use Rattle.std.proofs.Common.{rules}
use Rattle.lifecycle.proofs.idle.Idle.finish.Goals as goal

pub returns : goal.returns
returns g c = search rules
