use Rattle.std.proofs.Common.{refl}
use Rattle.octet_ports.proofs.tape.TapeIn.new.Goals as goal

pub returns-clause-coming : goal.returns-clause-coming
returns-clause-coming c = refl
