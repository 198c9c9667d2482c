use Rattle.std.proofs.Common.{rules}
use Rattle.port_files.proofs.roll.RegularFile.clashes.Goals as goal

pub returns-then-is_written : goal.returns-then-is_written
returns-then-is_written c = search rules

pub returns-else-is_written : goal.returns-else-is_written
returns-else-is_written c = search rules
