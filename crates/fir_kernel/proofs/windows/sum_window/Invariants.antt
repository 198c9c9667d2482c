use Rattle.std.proofs.Common.{◌*◌, map, to_z, w32}
use Rattle.fir_kernel.specs.Windows.{IsSpread, window_sum}
use Rattle.fir_kernel.proofs.windows.sum_window.Given as goal

abbrev pub invariant-loop-register : goal.invariant-loop-register
invariant-loop-register g l = IsSpread (map (to_z w32) l.sums) (window_sum l.taps l.line l.from (16 * l.register))
