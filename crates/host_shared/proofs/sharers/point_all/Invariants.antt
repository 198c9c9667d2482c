use Rattle.std.proofs.Common.{◌≡◌, ◌≢◌, ◌<◌, ◌≤◌, ℕ, length}
use Rattle.mem_rec.specs.declared.TheConstants.{INSTANCES}
use Rattle.host_shared.specs.Locations.{location_at, locations_at}
use Rattle.host_shared.specs.Sharing.{pointed}
use Rattle.host_shared.proofs.sharers.point_all.Given as goal

abbrev pub invariant-loop-j : goal.invariant-loop-j
invariant-loop-j l = record {
  count : length l.sharing.items ≡ INSTANCES;
  pointed : (n : ℕ) → n < l.j → location_at (locations_at l.sharing.items n) l.k ≡ pointed l.i l.next (location_at (locations_at l.fn.sharing.items n) l.k);
  waits : (n : ℕ) → l.j ≤ n → location_at (locations_at l.sharing.items n) l.k ≡ location_at (locations_at l.fn.sharing.items n) l.k;
  beside : (n r : ℕ) → r ≢ l.k → location_at (locations_at l.sharing.items n) r ≡ location_at (locations_at l.fn.sharing.items n) r;
}
