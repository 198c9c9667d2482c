use Rattle.std.proofs.Common.{◌≡◌, ◌-◌}
use Rattle.std.specs.Prelude.{find}
use Rattle.std.specs.List.{range_with_len}
use Rattle.mem_rec.specs.declared.TheConstants.{INSTANCES}
use Rattle.host_table.specs.Table.{slot_at}
use Rattle.host_map.specs.Sharers.{asked, is_sharer, sharer_of}
use Rattle.host_table.specs.Sharers.{asked_by}
use Rattle.host_table.proofs.sharers.find_once_sharer.Given as goal

abbrev pub invariant-loop-j : goal.invariant-loop-j
invariant-loop-j g l =
    sharer_of g.M.Ialg.law.meaning.same (λ i. asked_by (slot_at l.instances.items i)) (asked l.kind l.params.items l.table) l.k
    ≡ find (λ i. is_sharer g.M.Ialg.law.meaning.same (asked l.kind l.params.items l.table) l.k (asked_by (slot_at l.instances.items i))) (range_with_len l.j (INSTANCES - l.j))
