use Rattle.std.proofs.Common.{◌≡◌, ◌<◌, ℕ, length}
use Rattle.ialg.specs.History.{word_at}
use Rattle.basic_op.specs.Operators.{sub_of}
use Rattle.dsp_library.proofs.blocks.sub_all.Given as goal

abbrev pub invariant-loop-k : goal.invariant-loop-k
invariant-loop-k l = record {
  differences : (j : ℕ) → j < l.k → word_at l.out j ≡ sub_of (word_at l.a j) (word_at l.b j);
  first : length l.a ≡ length l.out;
  second : length l.b ≡ length l.out;
}
