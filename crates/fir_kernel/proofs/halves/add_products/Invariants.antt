use Rattle.std.proofs.Common.{◌≡◌, ◌<◌, ◌≤◌, ℕ, ℤ}
use Rattle.basic_op.specs.Halves.{half_of}
use Rattle.basic_op.specs.Operators.{l_mac_of}
use Rattle.ialg.specs.History.{word_at}
use Rattle.fir_kernel.specs.Halves.{AreHalves}
use Rattle.fir_kernel.proofs.halves.add_products.Given as goal

abbrev pub invariant-loop-i : goal.invariant-loop-i
invariant-loop-i l = record {
  halves : AreHalves l.sums;
  done : (j : ℕ) (v : ℤ) → j < l.i → word_at l.fn.sums j ≡ half_of v
      → word_at l.sums j ≡ half_of (l_mac_of (l_mac_of v l.coefficients.0 (word_at l.newer j)) l.coefficients.1 (word_at l.older j));
  left : (j : ℕ) → l.i ≤ j → word_at l.sums j ≡ word_at l.fn.sums j;
}
