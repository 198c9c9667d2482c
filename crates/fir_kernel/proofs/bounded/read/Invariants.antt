use Rattle.std.proofs.Common.{◌≤◌, ◌<◌, ℕ, unsigned_abs}
use Rattle.ialg.specs.History.{word_at}
use Rattle.fir_kernel.specs.declared.TheConstants.{GREATEST_MAGNITUDE}
use Rattle.fir_kernel.proofs.bounded.read.Given as goal

abbrev pub invariant-loop-sample : goal.invariant-loop-sample
invariant-loop-sample l = (k : ℕ) → k < l.sample-index → unsigned_abs (word_at l.samples k) ≤ GREATEST_MAGNITUDE
