use Rattle.std.proofs.Common.{rules}
use Rattle.port_files.proofs.roll.Roll.add.Goals as goal

pub returns-in-Some-clause-clash : goal.returns-in-Some-clause-clash
returns-in-Some-clause-clash c = search rules
