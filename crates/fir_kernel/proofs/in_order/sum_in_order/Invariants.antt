use Rattle.std.proofs.Common.{◌≡◌, ◌-◌, length}
use Rattle.ialg.specs.History.{word_at}
use Rattle.fir_kernel.specs.Sums.{l_mac_sum}
use Rattle.fir_kernel.proofs.in_order.sum_in_order.Given as goal

abbrev pub invariant-loop-k : goal.invariant-loop-k
invariant-loop-k l = l.sum ≡ l_mac_sum (word_at l.coefficients) (λ k. word_at l.window (length l.coefficients - 1 - k)) l.k
