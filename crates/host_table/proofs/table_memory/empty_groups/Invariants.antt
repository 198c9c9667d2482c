use Rattle.std.proofs.Common.{◌≡◌, ◌≤◌, ℕ, length, None, vec_capacity}
use Rattle.mem_rec.specs.declared.Space.{Space}
use Rattle.scratch_group.specs.Blocks.{block_in}
use Rattle.mem_rec.specs.declared.TheConstants.{GROUPS}
use Rattle.host_table.specs.Table.{group_at, activity_at}
use Rattle.host_map.specs.Activity.{never_activated}
use Rattle.host_table.proofs.table_memory.empty_groups.Given as goal

abbrev pub invariant-loop : goal.invariant-loop
invariant-loop g l = record {
  count : length l.groups.items ≡ l.counter;
  room : GROUPS ≤ vec_capacity l.groups;
  blocks : (k : ℕ) (space : Space) → block_in (group_at l.groups.items k) space ≡ None;
  activity : (k : ℕ) → activity_at l.groups.items k ≡ never_activated;
}
