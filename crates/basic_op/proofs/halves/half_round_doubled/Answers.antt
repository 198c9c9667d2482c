use Rattle.std.proofs.Common.{arith}
use Rattle.std.proofs.lemmas.Int.{ints}
use Rattle.basic_op.proofs.halves.half_round_doubled.Goals as goal

pub returns : goal.returns
returns c = grind (arith, ints)
