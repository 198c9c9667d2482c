use Rattle.std.proofs.Common.{arith}
use Rattle.ialg.proofs.words.copied.Goals as goal

pub returns : goal.returns
returns c = grind arith
