use Rattle.std.proofs.Common.{◌≡◌, ℕ, length, None}
use Rattle.mem_rec.specs.declared.Space.{Space}
use Rattle.scratch_group.specs.Blocks.{block_in}
use Rattle.host_table.specs.Table.{group_at}
use Rattle.host_table.proofs.table_memory.end_groups.Given as goal

abbrev pub invariant-loop-group : goal.invariant-loop-group
invariant-loop-group g l = (k : ℕ) (space : Space) → block_in (group_at l.groups.items k) space ≡ None

abbrev pub decreases-loop-group : goal.decreases-loop-group
decreases-loop-group g l = length l.groups.items
