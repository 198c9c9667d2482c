use Rattle.std.proofs.Common.{◌≡◌, ◌<◌, ℕ, length}
use Rattle.ialg.specs.History.{word_at}
use Rattle.basic_op.specs.Operators.{shr_of}
use Rattle.dsp_library.proofs.blocks.shr_all.Given as goal

abbrev pub invariant-loop-k : goal.invariant-loop-k
invariant-loop-k l = record {
  shifted : (j : ℕ) → j < l.k → word_at l.out j ≡ shr_of (word_at l.samples j) l.shift;
  size : length l.samples ≡ length l.out;
}
