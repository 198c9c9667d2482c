-- The worked rows, computed.
use Rattle.std.proofs.Common.{refl}
use Rattle.test_blocker.specs.Equation.{blocked, taken}
use Rattle.test_blocker.specs.Rows.{BlockerRows}

pub rows : BlockerRows
unfolding blocked taken
rows = record { step = refl; none = refl; two = refl }
