use Rattle.std.proofs.Common.{◌≡◌, ◌+◌, ◌<◌, ◌≤◌, ℕ, length}
use Rattle.ialg.specs.History.{word_at}
use Rattle.fir_kernel.proofs.bounded.reverse.Given as goal

abbrev pub invariant-loop-k : goal.invariant-loop-k
invariant-loop-k l = record {
  reversed : (i j : ℕ) → i + j + 1 ≡ length l.coefficients → j < l.k → word_at l.taps i ≡ word_at l.coefficients j;
  rest : (i : ℕ) → length l.coefficients ≤ i → word_at l.taps i ≡ word_at l.fn.taps i;
}
