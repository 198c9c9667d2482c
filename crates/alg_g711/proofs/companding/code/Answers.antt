use Rattle.std.proofs.Common.{arith}
use Rattle.std.proofs.lemmas.Int.{ints}
use Rattle.alg_g711.proofs.companding.code.Goals as goal

pub returns : goal.returns
returns c = grind (arith, ints)
