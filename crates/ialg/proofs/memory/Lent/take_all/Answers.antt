use Rattle.std.proofs.Common.{rules}
use Rattle.ialg.proofs.memory.Lent.take_all.Goals as goal

pub returns : goal.returns
returns c = search rules
