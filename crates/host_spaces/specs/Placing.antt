-- What a creation places, and what goes out of the spaces.
use Rattle.std.specs.Prelude.{ℕ, ◌+◌, ◌<◌, ◌≤◌, ◌≡◌, List, length, drop, Option, Result, IfSome}
use Rattle.std.specs.Result.{result_map_both}
use Rattle.mem_rec.specs.declared.MemRec.{MemRec}
use Rattle.mem_rec.specs.declared.Space.{Space}
use Rattle.mem_rec.specs.declared.TheConstants.{TABLE_RECORDS}
use Rattle.space_raw.specs.Span.{Span}
use Rattle.scratch_group.specs.declared.group.Group.{Group}
use Rattle.host_map.specs.declared.TheConstants.{SPACE_BLOCKS}
use Rattle.host_map.specs.declared.placed.Owner.TheVariants.{Scratch}
use Rattle.host_map.specs.declared.parts.Wanted.{Wanted}
use Rattle.host_map.specs.Blocks.{owned}
use Rattle.host_map.specs.MemoryMap.{MemoryMap, blocks_in, is_group's, without_owners}
use Rattle.host_map.specs.Creation.{all_placed, wanted_by}
use Rattle.host_spaces.specs.declared.pieces.NewBlocks.{NewBlocks}
use Rattle.host_spaces.specs.declared.pieces.OldBlocks.{OldBlocks}
use Rattle.host_spaces.specs.declared.pieces.Placement.{Placement}
use Rattle.host_spaces.specs.declared.spaces.Spaces.{Spaces}
use Rattle.host_spaces.specs.Blocks.{Owns, block_of_piece}
use Rattle.host_spaces.specs.MemoryMap.{map_of, sizes_of, space_in}
use Rattle.host_spaces.specs.Pieces.{ArePlacedPieces, HasRecords, IsNeeded, new_block, old_piece, with_new}
use Rattle.host_spaces.specs.Wants.{block_need, count_in}

-- no space would have too many blocks, once all that is wanted from entry k on is placed
abbrev pub HasRoomFrom : ℕ → List (Option Wanted) → Spaces → Type 0
HasRoomFrom k wants spaces = (space : Space) → length (space_in spaces space).blocks + count_in space (drop k wants) ≤ SPACE_BLOCKS

-- the answer is an error, as it is where not all of this can be placed, or the map is as it is once all is placed
abbrev pub PlacesAll : {A : Type 0} → List Wanted → Spaces → Spaces → Result A Space → Type 0
PlacesAll wanted old new answer = all_placed (sizes_of old) (map_of old) wanted ≡ result_map_both (λ _. map_of new) (λ space. space) answer

-- the new blocks are those that the group needs for a member with this table
abbrev pub AreNeeded : Spaces → List MemRec → Group → NewBlocks → Type 0
AreNeeded spaces table g blocks = (space : Space) → IsNeeded (space_in spaces space).region (block_need table g space) (new_block blocks space)

-- the group has its new blocks beside those that it had
abbrev pub HasNew : ℕ → NewBlocks → MemoryMap → MemoryMap → Type 0
HasNew g blocks old new = (space : Space) → owned (Scratch g) (blocks_in new space)
    ≡ with_new g (new_block blocks space) (owned (Scratch g) (blocks_in old space))

-- each piece is one of its space
abbrev pub AreInTheirSpaces : OldBlocks → Spaces → Type 0
AreInTheirSpaces pieces spaces = (space : Space) → IfSome (old_piece pieces space) (λ (p : Span). p.region ≡ (space_in spaces space).region)

-- each piece is one of the group's blocks
abbrev pub AreOfGroup : ℕ → OldBlocks → MemoryMap → Type 0
AreOfGroup g pieces map = (space : Space) → IfSome (old_piece pieces space) (Owns (blocks_in map space) (Scratch g))

-- where the pieces were all of the group's blocks, it has none any more, and the others have theirs
abbrev pub LeaveTheirGroup : ℕ → OldBlocks → MemoryMap → MemoryMap → Type 0
LeaveTheirGroup g pieces old new = (align : Space → ℕ)
    → ((space : Space) → owned (Scratch g) (blocks_in old space) ≡ block_of_piece (Scratch g) (align space) (old_piece pieces space))
    → new ≡ without_owners (is_group's g) old

-- each space has room for the blocks of one more instance
abbrev pub HasRoomForInstance : MemoryMap → Type 0
HasRoomForInstance map = (space : Space) → length (blocks_in map space) + TABLE_RECORDS < SPACE_BLOCKS

-- as PlacesAll says, of all that a new instance i of group g needs with this table and these sharers
abbrev pub PlacesInstance : {A : Type 0} → ℕ → ℕ → List MemRec → (ℕ → Option ℕ) → Spaces → Spaces → Result A Space → Type 0
PlacesInstance i g table sharers old new answer = PlacesAll (wanted_by sharers (map_of old) i g table) old new answer

-- the placement has the pieces of the records that have no sharer
abbrev pub HasPlacedPieces : Spaces → List MemRec → (ℕ → Option ℕ) → Placement → Type 0
HasPlacedPieces spaces table sharers made = ArePlacedPieces spaces table sharers made.own made.shared

-- the pieces of the placement are the blocks of instance i
abbrev pub HasPlacedRecords : MemoryMap → ℕ → List MemRec → Placement → Type 0
HasPlacedRecords map i table made = HasRecords map i table made.own made.shared
