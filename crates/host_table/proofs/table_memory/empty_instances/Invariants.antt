use Rattle.std.proofs.Common.{◌≡◌, ◌≤◌, ℕ, length, None, vec_capacity}
use Rattle.mem_rec.specs.declared.TheConstants.{INSTANCES}
use Rattle.host_table.specs.Table.{slot_at}
use Rattle.host_table.proofs.table_memory.empty_instances.Given as goal

abbrev pub invariant-loop : goal.invariant-loop
invariant-loop g l = record {
  count : length l.instances.items ≡ l.counter;
  room : INSTANCES ≤ vec_capacity l.instances;
  empty : (i : ℕ) → slot_at l.instances.items i ≡ None;
}
