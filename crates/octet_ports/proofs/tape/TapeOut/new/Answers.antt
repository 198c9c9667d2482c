use Rattle.std.proofs.Common.{rules}
use Rattle.octet_ports.proofs.tape.TapeOut.new.Goals as goal

pub returns-clause-held : goal.returns-clause-held
returns-clause-held c = search rules
