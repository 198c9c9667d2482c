use Rattle.std.proofs.Common.{sym, ◌∙◌}
use Rattle.std.proofs.lemmas.Option.{none-some}
use Rattle.host_table.proofs.Ends.{last_empty, front_empty}
use Rattle.host_table.proofs.table_memory.end_instances.Goals as goal

pub unreachable-requires : goal.unreachable-requires
unreachable-requires g c =
    none-some _ (sym (last_empty c.pop.new.self.items c.in-Some.slot (rw c.in-Some.ensures.items at c.loop-slot.invariant)) ∙ c.in-Some-slot.is)

pub loop-slot-preserved : goal.loop-slot-preserved
loop-slot-preserved g c = front_empty c.pop.new.self.items c.in-Some.slot (rw c.in-Some.ensures.items at c.loop-slot.invariant)
