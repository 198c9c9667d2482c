-- Sums by halves of their values.
use Rattle.std.specs.Prelude.{ℤ}
use Rattle.basic_op.specs.Operators.{floor_div}

-- half of a Word32, rounded towards minus infinity
abbrev pub half_of : ℤ → ℤ
half_of v = floor_div v 2
