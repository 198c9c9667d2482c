use Rattle.std.proofs.Common.{sym, subst}
use Rattle.mem_rec.specs.declared.Space.{Space}
use Rattle.scratch_group.specs.declared.group.Group.{Group}
use Rattle.host_spaces.specs.MemoryMap.{space_in}
use Rattle.host_spaces.specs.Pieces.{IsNeeded, new_block}
use Rattle.host_spaces.specs.Wants.{block_need}
use Rattle.host_table.proofs.Changes.{read_group}
use Rattle.std.specs.Prelude.{IfOk}
use Rattle.host_instances.proofs.starting.place.Goals as goal

pub returns-clause-needed : goal.returns-clause-needed
returns-clause-needed c =
    subst (λ (y : Group). IfOk c.place_instance.result (λ made. (space : Space) → IsNeeded (space_in c.args.spaces.now space).region (block_need c.args.table.now y space) (new_block made.blocks space)))
    (sym (read_group c.args.groups.now.items c.args.g c.index.result.now c.requires.group c.index.ensures)) c.place_instance.ensures.needed
