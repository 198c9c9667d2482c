use Rattle.std.proofs.Common.{ℕ, ◌≢◌, ◌≤◌, ◌<◌}
use Rattle.host_shared.specs.Locations.{owner_of}
use Rattle.host_shared.proofs.locations.next_with_owner.Given as goal

abbrev pub invariant-loop-j : goal.invariant-loop-j
invariant-loop-j l = record {
  behind : l.from ≤ l.j;
  passed : (j : ℕ) → l.from ≤ j → j < l.j → owner_of l.sharing.items j l.k ≢ l.i;
}
