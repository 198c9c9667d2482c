-- The worked rows, computed.
use Rattle.std.proofs.Common.{refl}
use Rattle.alg_activity.specs.Equation.{tracked, lasting, next}
use Rattle.alg_activity.specs.Rows.{ActivityRows}

pub rows : ActivityRows
unfolding tracked lasting next
rows = record { hangs = refl; alone = refl; wide = refl; grows = refl; most = refl; more = refl; none = refl; below = refl; five = refl }
