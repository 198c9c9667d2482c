use Rattle.std.proofs.Common.{◌≡◌, ℕ}
use Rattle.host_table.specs.Table.{activity_at, TablesTold}
use Rattle.host_table.specs.Frames.{InactiveGroupsStay}
use Rattle.host_table.specs.Steps.{AllLogsGo, MembersStay, told_below}
use Rattle.host_table.proofs.moves.call_moved_in_group.Given as goal

abbrev pub invariant-loop-i : goal.invariant-loop-i
invariant-loop-i g l = record {
  told : TablesTold l.g l.i l.tables.instances l.tables.sharing l.tables.groups;
  inactive : InactiveGroupsStay l.fn.tables.groups l.tables.groups;
  same : MembersStay l.fn.tables l.tables;
  activity : (k : ℕ) → activity_at l.tables.groups k ≡ activity_at l.fn.tables.groups k;
  keeps : AllLogsGo g.M.Ialg.law l.fn.tables l.tables (told_below l.g l.i l.fn.tables);
}
