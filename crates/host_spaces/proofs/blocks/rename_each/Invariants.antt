-- The blocks before the index have their names.
use Rattle.std.proofs.Common.{◌≡◌, ◌++◌, map, take, drop}
use Rattle.host_map.specs.Blocks.{renamed_block, renaming}
use Rattle.host_spaces.proofs.blocks.rename_each.Given as goal

abbrev pub invariant-loop-block : goal.invariant-loop-block
invariant-loop-block l =
    l.blocks ≡ map (renamed_block (renaming l.from l.to)) (take l.block-index l.initial.blocks) ++ drop l.block-index l.initial.blocks
