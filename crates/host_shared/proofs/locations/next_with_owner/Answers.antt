use Rattle.std.proofs.Common.{rules}
use Rattle.host_shared.proofs.locations.next_with_owner.Goals as goal

pub loop-j-init : goal.loop-j-init
loop-j-init c = search rules
