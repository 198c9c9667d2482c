use Rattle.std.proofs.Common.{◌≡◌, ◌<◌, ℕ, ℤ, FitsSigned, slice_index_or}
use Rattle.std.specs.Int.{w16}
use Rattle.ialg.specs.History.{word_at}
use Rattle.kind_parts.proofs.mapping.map_each.Given as goal

abbrev pub invariant-loop-k : goal.invariant-loop-k
invariant-loop-k g l = record {
  values : (j : ℕ) → j < l.k → word_at l.outputs j ≡ g.K.Mapping.value l.words (word_at l.input j);
  read : (j : ℕ) → j < l.k → FitsSigned w16 (word_at l.input j);
}
