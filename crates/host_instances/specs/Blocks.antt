-- New blocks in place of old ones.
use Rattle.std.specs.Prelude.{ℕ, ◌≡◌, Bool, List, Option, Some, None, is_some}
use Rattle.mem_rec.specs.declared.Space.{Space}
use Rattle.std.specs.List.{list_any}
use Rattle.space_raw.specs.Span.{Span}
use Rattle.record_loans.specs.declared.block.ScratchBlock.{ScratchBlock}
use Rattle.record_loans.specs.Blocks.{block_piece}
use Rattle.scratch_group.specs.declared.group.Group.{Group}
use Rattle.scratch_group.specs.Blocks.{block_in}
use Rattle.host_spaces.specs.declared.pieces.NewBlocks.{NewBlocks}
use Rattle.host_spaces.specs.declared.pieces.OldBlocks.{OldBlocks}
use Rattle.host_map.specs.MemoryMap.{all_spaces}
use Rattle.host_spaces.specs.Pieces.{new_block, old_piece}
use Rattle.host_table.specs.Table.{group_at}

-- the new block, or the old one where there is no new one
abbrev pub newer : Option ScratchBlock → Option ScratchBlock → Option ScratchBlock
newer None old = old
newer (Some b) old = Some b

-- the piece of the old block, where there is a new one
abbrev pub replaced_piece : Option ScratchBlock → Option ScratchBlock → Option Span
replaced_piece None old = None
replaced_piece (Some b) old = block_piece old

-- whether a new block stands in place of an old one of the group
abbrev pub replaced_in : NewBlocks → Group → Bool
replaced_in blocks y = list_any (λ space. is_some (replaced_piece (new_block blocks space) (block_in y space))) all_spaces

-- the pieces of a group's old blocks that have new ones in their place
abbrev pub replaced_pieces : NewBlocks → Group → OldBlocks
replaced_pieces blocks y = record {
  daram = replaced_piece blocks.daram y.daram;
  saram = replaced_piece blocks.saram y.saram;
  external = replaced_piece blocks.external y.external;
}

-- no new block in any space
abbrev pub no_blocks : NewBlocks
no_blocks = record { daram = None; saram = None; external = None }

-- in the space the group has the new block, or its old one where there is no new one
abbrev pub IsRenewed : ℕ → Space → Option ScratchBlock → List Group → List Group → Type 0
IsRenewed g space new groups groups' = block_in (group_at groups' g) space ≡ newer new (block_in (group_at groups g) space)

-- so it is in each space
abbrev pub AreRenewed : ℕ → NewBlocks → List Group → List Group → Type 0
AreRenewed g blocks groups groups' = (space : Space) → IsRenewed g space (new_block blocks space) groups groups'

-- the piece is that of the group's old block in the space, where there is a new one
abbrev pub IsReplaced : ℕ → Space → Option ScratchBlock → List Group → Option Span → Type 0
IsReplaced g space new groups piece = piece ≡ replaced_piece new (block_in (group_at groups g) space)

-- so it is in each space
abbrev pub AreReplaced : ℕ → NewBlocks → List Group → OldBlocks → Type 0
AreReplaced g blocks groups pieces = (space : Space) → IsReplaced g space (new_block blocks space) groups (old_piece pieces space)
