use Rattle.std.proofs.Common.{◌≡◌, ◌<◌, ℕ, length}
use Rattle.ialg.specs.History.{word_at}
use Rattle.basic_op.specs.Operators.{mult_of}
use Rattle.dsp_library.proofs.blocks.mult_all.Given as goal

abbrev pub invariant-loop-k : goal.invariant-loop-k
invariant-loop-k l = record {
  products : (j : ℕ) → j < l.k → word_at l.out j ≡ mult_of (word_at l.samples j) l.gain;
  size : length l.samples ≡ length l.out;
}
