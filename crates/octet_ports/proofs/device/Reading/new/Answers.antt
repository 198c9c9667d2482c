use Rattle.std.proofs.Common.{refl}
use Rattle.octet_ports.proofs.device.Reading.new.Goals as goal

pub returns : goal.returns
returns g c = refl
