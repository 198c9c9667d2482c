use Rattle.std.proofs.Common.{◌≡◌, ◌<◌, ◌≤◌, ℕ, None, length}
use Rattle.mem_rec.specs.declared.TheConstants.{INSTANCES}
use Rattle.record_loans.specs.Pieces.{piece_at}
use Rattle.host_shared.specs.Locations.{location_at, locations_at}
use Rattle.host_shared.specs.Joining.{sharer_at, location_joined}
use Rattle.host_shared.proofs.joining.join.Given as goal

abbrev pub invariant-loop-k : goal.invariant-loop-k
invariant-loop-k l = record {
  count : length l.sharing.items ≡ INSTANCES;
  joined : (j n : ℕ) → n < l.k → location_at (locations_at l.sharing.items j) n ≡ location_joined l.fn.sharing.items l.i n (sharer_at l.sharers n) (piece_at l.fn.placed n) j;
  waits : (j n : ℕ) → l.k ≤ n → location_at (locations_at l.sharing.items j) n ≡ location_at (locations_at l.fn.sharing.items j) n;
  rest : (n : ℕ) → l.k ≤ n → piece_at l.left n ≡ piece_at l.fn.placed n;
  taken : (n : ℕ) → n < l.k → piece_at l.left n ≡ None;
}
