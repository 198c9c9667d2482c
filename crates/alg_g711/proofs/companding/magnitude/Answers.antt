use Rattle.std.proofs.Common.{arith}
use Rattle.std.proofs.lemmas.Int.{ints}
use Rattle.alg_g711.proofs.companding.magnitude.Goals as goal

pub returns-in-A-clause-value : goal.returns-in-A-clause-value
returns-in-A-clause-value c = grind (arith, ints)

pub returns-in-Mu-clause-value : goal.returns-in-Mu-clause-value
returns-in-Mu-clause-value c = grind (arith, ints)
