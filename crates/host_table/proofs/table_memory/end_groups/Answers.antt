use Rattle.std.proofs.Common.{◌≡◌, None}
use Rattle.mem_rec.specs.declared.Space.{Space}
use Rattle.scratch_group.specs.declared.group.Group.{Group}
use Rattle.scratch_group.specs.Blocks.{block_in}
use Rattle.host_table.specs.Table.{no_group}
use Rattle.host_shared.proofs.Ends.{last_of}
use Rattle.host_table.proofs.table_memory.end_groups.Goals as goal

pub end-requires : goal.end-requires
end-requires g c =
    last_of no_group (λ (x : Group). (space : Space) → block_in x space ≡ None) c.pop.new.self.items c.in-Some.group (rw c.in-Some.ensures.items at c.loop-group.invariant)
