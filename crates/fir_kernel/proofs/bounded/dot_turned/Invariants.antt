use Rattle.std.proofs.Common.{◌≡◌, ◌-◌, length, w32}
use Rattle.std.specs.Int.{int_wrap}
use Rattle.ialg.specs.History.{word_at}
use Rattle.fir_kernel.specs.Bounded.{product_sum}
use Rattle.fir_kernel.proofs.bounded.dot_turned.Given as goal

abbrev pub invariant-loop-k : goal.invariant-loop-k
invariant-loop-k l = l.sum ≡ int_wrap w32 (product_sum (word_at l.coefficients) (λ j. word_at l.window (length l.coefficients - 1 - j)) l.k)
