use Rattle.std.proofs.Common.{arith}
use Rattle.std.proofs.lemmas.Int.{ints}
use Rattle.std.proofs.lemmas.Grind.{common_steps}
use Rattle.basic_op.proofs.long.extract_l.Goals as goal

pub returns : goal.returns
returns c = grind (ints, arith, common_steps)
