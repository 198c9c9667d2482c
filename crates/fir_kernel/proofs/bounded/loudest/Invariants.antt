use Rattle.std.proofs.Common.{◌≤◌, ◌<◌, ℕ, unsigned_abs}
use Rattle.ialg.specs.History.{word_at}
use Rattle.fir_kernel.specs.Bounded.{NoneLouder}
use Rattle.fir_kernel.proofs.bounded.loudest.Given as goal

abbrev pub invariant-loop-sample : goal.invariant-loop-sample
invariant-loop-sample l = record {
  bound : (k : ℕ) → k < l.sample-index → unsigned_abs (word_at l.samples k) ≤ l.loudest;
  least : (bound : ℕ) → NoneLouder l.samples bound → l.loudest ≤ bound;
}
