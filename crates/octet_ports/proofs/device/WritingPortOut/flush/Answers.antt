use Rattle.std.proofs.Common.{arith}
use Rattle.octet_ports.proofs.device.WritingPortOut.flush.Goals as goal

pub returns-in-Ok-clause-all : goal.returns-in-Ok-clause-all
returns-in-Ok-clause-all g c = λ honest. omega arith
