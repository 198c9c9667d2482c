use Rattle.std.proofs.Common.{rules}
use Rattle.octet_ports.proofs.tape.TapeOutPortOut.put.Goals as goal

pub returns-then-self-eq0-clause-breaks : goal.returns-then-self-eq0-clause-breaks
returns-then-self-eq0-clause-breaks c = search rules
