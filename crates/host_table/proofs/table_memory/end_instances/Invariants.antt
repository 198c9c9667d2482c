use Rattle.std.proofs.Common.{◌≡◌, ℕ, length, None}
use Rattle.host_table.specs.Table.{slot_at}
use Rattle.host_table.proofs.table_memory.end_instances.Given as goal

abbrev pub invariant-loop-slot : goal.invariant-loop-slot
invariant-loop-slot g l = (i : ℕ) → slot_at l.instances.items i ≡ None

abbrev pub decreases-loop-slot : goal.decreases-loop-slot
decreases-loop-slot g l = length l.instances.items
