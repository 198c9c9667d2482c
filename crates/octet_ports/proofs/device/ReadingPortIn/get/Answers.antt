use Rattle.std.proofs.Common.{rules}
use Rattle.octet_ports.proofs.device.ReadingPortIn.get.Goals as goal

pub returns-in-Ok-clause-octets : goal.returns-in-Ok-clause-octets
returns-in-Ok-clause-octets g c = search rules

pub returns-in-Ok-clause-end : goal.returns-in-Ok-clause-end
returns-in-Ok-clause-end g c = search rules
