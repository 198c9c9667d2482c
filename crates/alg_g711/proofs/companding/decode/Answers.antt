use Rattle.std.proofs.Common.{arith}
use Rattle.std.proofs.lemmas.Int.{ints}
use Rattle.alg_g711.proofs.companding.decode.Goals as goal

pub returns-then-bits-lt-SIGN_BIT : goal.returns-then-bits-lt-SIGN_BIT
returns-then-bits-lt-SIGN_BIT c = grind (arith, ints)

pub returns-else-bits-lt-SIGN_BIT : goal.returns-else-bits-lt-SIGN_BIT
returns-else-bits-lt-SIGN_BIT c = grind (arith, ints)
