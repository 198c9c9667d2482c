use Rattle.std.proofs.Common.{rules}
use Rattle.octet_ports.proofs.tape.TapeOutPortOut.flush.Goals as goal

pub returns-clause-all : goal.returns-clause-all
returns-clause-all c = search rules
