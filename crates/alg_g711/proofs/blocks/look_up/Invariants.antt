use Rattle.std.proofs.Common.{◌≡◌, ◌<◌, ◌%◌, ℕ, ℤ, length, FitsSigned, slice_index_or}
use Rattle.std.specs.Int.{w16, cast_unsigned}
use Rattle.ialg.specs.History.{word_at}
use Rattle.alg_g711.specs.declared.TheConstants.{CODES}
use Rattle.alg_g711.proofs.blocks.look_up.Given as goal

abbrev pub invariant-loop-k : goal.invariant-loop-k
invariant-loop-k l = record {
  size : length l.samples ≡ length l.codes;
  samples : (i : ℕ) → i < l.k → word_at l.samples i ≡ word_at l.table (cast_unsigned w16 (word_at l.codes i) % CODES);
  read : (i : ℕ) (d : ℤ) → i < l.k → FitsSigned w16 (slice_index_or l.codes i d);
}
