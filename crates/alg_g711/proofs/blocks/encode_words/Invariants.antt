use Rattle.std.proofs.Common.{◌≡◌, ◌<◌, ℕ, ℤ, pos, FitsSigned, slice_index_or}
use Rattle.std.specs.Int.{w16}
use Rattle.ialg.specs.History.{word_at}
use Rattle.alg_g711.specs.Companding.{encoded}
use Rattle.alg_g711.proofs.blocks.encode_words.Given as goal

abbrev pub invariant-loop-k : goal.invariant-loop-k
invariant-loop-k l = record {
  codes : (j : ℕ) → j < l.k → word_at l.codes j ≡ pos (encoded l.law (word_at l.samples j));
  read : (j : ℕ) (d : ℤ) → j < l.k → FitsSigned w16 (slice_index_or l.samples j d);
}
