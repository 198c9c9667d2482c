use Rattle.std.proofs.Common.{ℕ, ℤ, ◌<◌, FitsSigned, slice_index_or}
use Rattle.std.specs.Int.{w16}
use Rattle.test_diary.proofs.diary.read.Given as goal

abbrev pub invariant-loop-k : goal.invariant-loop-k
invariant-loop-k l = (j : ℕ) (d : ℤ) → j < l.k → FitsSigned w16 (slice_index_or l.words j d)
