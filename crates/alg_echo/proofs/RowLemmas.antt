-- The worked rows, computed.
use Rattle.std.proofs.Common.{refl}
use Rattle.echo_kernel.specs.Equation.{held, followed, mantissa, shift, is_better, is_worse}
use Rattle.alg_echo.specs.Rows.{EchoRows}

pub rows : EchoRows
unfolding held followed mantissa shift is_better is_worse
rows = record { learns = refl; talks = refl; most = refl; more = refl; none = refl; three = refl }
