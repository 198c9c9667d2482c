use Rattle.std.proofs.Common.{arith}
use Rattle.std.proofs.lemmas.Int.{ints}
use Rattle.alg_g711.proofs.coder.Coder.kind.Goals as goal

pub returns-in-A-Decode : goal.returns-in-A-Decode
returns-in-A-Decode c = grind (arith, ints)
