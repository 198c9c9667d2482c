use Rattle.std.proofs.Common.{◌≡◌, ◌≤◌, ◌<◌, ◌-◌, ℕ}
use Rattle.mem_rec.specs.declared.TheConstants.{INSTANCES}
use Rattle.host_shared.specs.Locations.{owner_of}
use Rattle.host_table.specs.Table.{activity_at}
use Rattle.host_table.specs.Steps.{AllLogsGo}
use Rattle.host_table.specs.Frames.{InactiveGroupsStay, SameMembers}
use Rattle.host_moves.specs.Moves.{told_until}
use Rattle.host_moves.specs.Waiting.{all_from, holds_with, TablesWaiting}
use Rattle.host_moves.proofs.told.call_moved_of_sharers.Given as goal

abbrev pub invariant-loop-j : goal.invariant-loop-j
invariant-loop-j g l = record {
  behind : l.i < l.j;
  within : l.j ≤ INSTANCES;
  found : l.j < INSTANCES → owner_of l.tables.sharing l.j l.k ≡ l.i;
  waiting : TablesWaiting (all_from (holds_with l.tables.sharing l.i l.k) l.j) l.tables.instances l.tables.sharing l.tables.groups;
  inactive : InactiveGroupsStay l.fn.tables.groups l.tables.groups;
  same : SameMembers l.fn.tables.instances l.fn.tables.sharing l.fn.tables.groups l.tables.instances l.tables.sharing l.tables.groups;
  activity : (g : ℕ) → activity_at l.tables.groups g ≡ activity_at l.fn.tables.groups g;
  keeps : AllLogsGo g.M.Ialg.law l.fn.tables l.tables (told_until (holds_with l.fn.tables.sharing l.i l.k) l.j);
}

abbrev pub decreases-loop-j : goal.decreases-loop-j
decreases-loop-j g l = INSTANCES - l.j
