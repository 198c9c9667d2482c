use Rattle.std.proofs.Common.{◌≡◌, ◌≤◌, ℕ, length, vec_capacity}
use Rattle.mem_rec.specs.declared.TheConstants.{INSTANCES}
use Rattle.host_shared.specs.Locations.{locations_at, no_locations}
use Rattle.host_shared.proofs.tables.empty_sharing.Given as goal

abbrev pub invariant-loop : goal.invariant-loop
invariant-loop g l = record {
  count : length l.sharing.items ≡ l.counter;
  room : INSTANCES ≤ vec_capacity l.sharing;
  empty : (i : ℕ) → locations_at l.sharing.items i ≡ no_locations;
}
