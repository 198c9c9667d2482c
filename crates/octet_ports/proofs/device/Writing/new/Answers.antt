use Rattle.std.proofs.Common.{refl}
use Rattle.octet_ports.proofs.device.Writing.new.Goals as goal

pub returns : goal.returns
returns g c = refl
