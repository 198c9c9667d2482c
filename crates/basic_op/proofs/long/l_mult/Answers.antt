use Rattle.std.proofs.Common.{arith}
use Rattle.std.proofs.lemmas.Int.{ints}
use Rattle.basic_op.proofs.long.l_mult.Goals as goal

pub returns-then-product : goal.returns-then-product
returns-then-product c = grind (arith, ints)

pub returns-else-product : goal.returns-else-product
returns-else-product c = grind (arith, ints)
