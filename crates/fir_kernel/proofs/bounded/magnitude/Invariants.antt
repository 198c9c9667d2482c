use Rattle.std.proofs.Common.{◌≡◌, ◌≤◌, ◌*◌}
use Rattle.ialg.specs.History.{word_at}
use Rattle.fir_kernel.specs.Bounded.{magnitude_sum}
use Rattle.fir_kernel.proofs.bounded.magnitude.Given as goal

abbrev pub invariant-loop-coefficient : goal.invariant-loop-coefficient
invariant-loop-coefficient l = record {
  sum : l.sum ≡ magnitude_sum (word_at l.coefficients) l.coefficient-index;
  within : l.sum ≤ 32768 * l.coefficient-index;
}
