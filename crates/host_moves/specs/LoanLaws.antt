-- What the laws of maps and loans say.
use Rattle.std.specs.Prelude.{◌≡◌, ◌≢◌, ◌≤◌, ◌⊎◌, ℕ, List, Option, Some, length}
use Rattle.space_raw.specs.Span.{Span, Apart}
use Rattle.mem_rec.specs.declared.Space.{Space}
use Rattle.record_loans.specs.Blocks.{block_piece}
use Rattle.scratch_group.specs.declared.group.Group.{Group}
use Rattle.scratch_group.specs.Blocks.{block_in}
use Rattle.host_table.specs.declared.member.Member.{Member}
use Rattle.host_shared.specs.declared.locations.Locations.{Locations}
use Rattle.host_table.specs.Table.{TablesOk, slot_at, group_at}
use Rattle.host_map.specs.declared.TheConstants.{MAP_BLOCKS}
use Rattle.host_map.specs.Blocks.{AreSingle}
use Rattle.host_map.specs.MemoryMap.{blocks_in}
use Rattle.host_spaces.specs.declared.spaces.Spaces.{Spaces}
use Rattle.host_spaces.specs.MemoryMap.{map_of}
use Rattle.host_moves.specs.Standing.{AreOrdered, AgreeWithMap}
use Rattle.host_moves.specs.Lent.{AreSharers, lent_record}

-- no owner has two blocks of a space
abbrev pub OwnersHaveOneBlock : Type 0 → Type 0
OwnersHaveOneBlock M =
    (instances : List (Option (Member M))) (sharing : List Locations) (groups : List Group) (spaces : Spaces) (space : Space)
    → TablesOk instances sharing groups → AgreeWithMap instances sharing groups spaces → AreSingle (blocks_in (map_of spaces) space)

-- so a map has room for all blocks of a space
abbrev pub MapsHaveRoom : Type 0 → Type 0
MapsHaveRoom M =
    (instances : List (Option (Member M))) (sharing : List Locations) (groups : List Group) (spaces : Spaces) (space : Space)
    → TablesOk instances sharing groups → AgreeWithMap instances sharing groups spaces → length (blocks_in (map_of spaces) space) ≤ MAP_BLOCKS

-- two records have no word in common, but for a write-once record of instances that are alike in it
abbrev pub RecordsAreApart : Type 0 → Type 0
RecordsAreApart M =
    (instances : List (Option (Member M))) (sharing : List Locations) (groups : List Group) (spaces : Spaces)
    → TablesOk instances sharing groups → AgreeWithMap instances sharing groups spaces → AreOrdered spaces
    → (i j k l : ℕ) (space : Space) (p q : Span) → lent_record instances sharing i k space ≡ Some p → lent_record instances sharing j l space ≡ Some q → (i ≢ j) ⊎ (k ≢ l)
    → Apart p q ⊎ ((i ≢ j) × (k ≡ l) × AreSharers k (slot_at instances i) (slot_at instances j))

-- no record has a word of a group's block
abbrev pub RecordsAreApartFromBlocks : Type 0 → Type 0
RecordsAreApartFromBlocks M =
    (instances : List (Option (Member M))) (sharing : List Locations) (groups : List Group) (spaces : Spaces)
    → AgreeWithMap instances sharing groups spaces → AreOrdered spaces
    → (i k g : ℕ) (space : Space) (p q : Span) → lent_record instances sharing i k space ≡ Some p → block_piece (block_in (group_at groups g) space) ≡ Some q → Apart p q

-- the blocks of two groups have no word in common
abbrev pub BlocksAreApart : Type 0 → Type 0
BlocksAreApart M =
    (instances : List (Option (Member M))) (sharing : List Locations) (groups : List Group) (spaces : Spaces)
    → AgreeWithMap instances sharing groups spaces → AreOrdered spaces
    → (g h : ℕ) (space : Space) (p q : Span) → g ≢ h → block_piece (block_in (group_at groups g) space) ≡ Some p → block_piece (block_in (group_at groups h) space) ≡ Some q
    → Apart p q
