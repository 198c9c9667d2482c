use Rattle.std.proofs.Common.{◌≡◌, ◌<◌, ◌≤◌, ℕ, None}
use Rattle.record_loans.specs.Pieces.{piece_at}
use Rattle.host_shared.proofs.Owners.{with_first}
use Rattle.host_shared.proofs.locations.put_each.Given as goal

abbrev pub invariant-loop-k : goal.invariant-loop-k
invariant-loop-k l = record {
  put : l.sharing.items ≡ with_first l.fn.sharing.items l.i l.fn.pieces l.k;
  rest : (n : ℕ) → l.k ≤ n → piece_at l.left n ≡ piece_at l.fn.pieces n;
  taken : (n : ℕ) → n < l.k → piece_at l.left n ≡ None;
}
