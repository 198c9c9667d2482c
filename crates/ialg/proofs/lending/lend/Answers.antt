use Rattle.std.proofs.Common.{rules}
use Rattle.ialg.proofs.lending.lend.Goals as goal

pub returns-clause-done : goal.returns-clause-done
returns-clause-done g c = search rules
