use Rattle.std.proofs.Common.{sym, ◌∙◌}
use Rattle.host_map.specs.declared.placed.Owner.TheVariants.{Scratch}
use Rattle.scratch_group.specs.Blocks.{block_in}
use Rattle.host_map.specs.MemoryMap.{blocks_in}
use Rattle.host_spaces.specs.MemoryMap.{map_of, space_in}
use Rattle.host_spaces.proofs.Limits.{block_limits, old_limits}
use Rattle.host_spaces.proofs.wants.wanted_block.Goals as goal

pub returns-clause-limits : goal.returns-clause-limits
returns-clause-limits c =
    let b = block_in c.args.old.now c.args.space in
    block_limits c.args.table.now c.args.space (Scratch c.args.g) b c.in_ok-need.need c.records-records.ensures.table
    (old_limits (space_in c.args.spaces.now c.args.space).region.size (blocks_in (map_of c.args.spaces.now) c.args.space) (Scratch c.args.g) b c.blocks-blocks.ensures.order (c.requires.blocks c.args.space))
    (sym c.in_ok-need.was ∙ c.need.ensures)
