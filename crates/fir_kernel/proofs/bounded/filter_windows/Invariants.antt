use Rattle.std.proofs.Common.{◌≡◌, ◌+◌, ◌*◌, ◌<◌, ℕ, ℤ}
use Rattle.basic_op.specs.Halves.{half_of}
use Rattle.basic_op.specs.Operators.{round_of}
use Rattle.ialg.specs.History.{word_at}
use Rattle.fir_kernel.specs.Windows.{wrapped_sum}
use Rattle.fir_kernel.proofs.bounded.filter_windows.Given as goal

abbrev pub invariant-loop-i : goal.invariant-loop-i
invariant-loop-i l = (j : ℕ) (v : ℤ) → j < l.i → wrapped_sum l.taps l.line (l.first + l.step * j) ≡ half_of v → word_at l.out j ≡ round_of v
