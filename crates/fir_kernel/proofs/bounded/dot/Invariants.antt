use Rattle.std.proofs.Common.{◌≡◌, ◌*◌, w32}
use Rattle.std.specs.Int.{int_wrap}
use Rattle.ialg.specs.History.{word_at}
use Rattle.fir_kernel.specs.Bounded.{product_sum}
use Rattle.fir_kernel.proofs.bounded.dot.Given as goal

abbrev pub invariant-loop-run : goal.invariant-loop-run
invariant-loop-run l = l.sum ≡ int_wrap w32 (product_sum (word_at l.taps) (word_at l.window) (32 * l.run))
