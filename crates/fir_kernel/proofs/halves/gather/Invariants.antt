use Rattle.std.proofs.Common.{◌≡◌, ◌<◌, ◌+◌, ◌*◌, ℕ}
use Rattle.ialg.specs.History.{word_at}
use Rattle.fir_kernel.proofs.halves.gather.Given as goal

abbrev pub invariant-loop-i : goal.invariant-loop-i
invariant-loop-i l = (j : ℕ) → j < l.i → word_at l.samples j ≡ word_at l.line (l.first + l.step * j + l.on)
