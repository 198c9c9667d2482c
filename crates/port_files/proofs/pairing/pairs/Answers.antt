use Rattle.std.proofs.Common.{rules}
use Rattle.port_files.proofs.pairing.pairs.Goals as goal

pub returns-then-is_empty-clause-fits : goal.returns-then-is_empty-clause-fits
returns-then-is_empty-clause-fits c = search rules
