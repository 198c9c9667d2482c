use Rattle.std.proofs.Common.{◌≡◌, ◌<◌, ◌≤◌, ℕ, true, unsigned_abs}
use Rattle.ialg.specs.History.{word_at}
use Rattle.fir_kernel.proofs.halves.are_above_least.Given as goal

abbrev pub invariant-loop-word : goal.invariant-loop-word
invariant-loop-word l = l.above ≡ true → (k : ℕ) → k < l.word-index → unsigned_abs (word_at l.words k) ≤ 32767
