-- Laws of the blocks of a space, and of creations.
use Rattle.std.specs.Prelude.{ℕ, ◌+◌, ◌<◌, ◌≤◌, ◌≡◌, ◌≢◌, List, [], length, Option, Ok, Err}
use Rattle.std.specs.Option.{option_map}
use Rattle.mem_rec.specs.declared.MemRec.{MemRec}
use Rattle.mem_rec.specs.declared.Space.{Space}
use Rattle.mem_rec.specs.declared.TheConstants.{TABLE_RECORDS, INSTANCES}
use Rattle.space_raw.specs.Span.{Apart, Span}
use Rattle.space_heap.specs.Maps.{AreBlocks}
use Rattle.host_map.specs.declared.TheConstants.{MAP_BLOCKS}
use Rattle.host_map.specs.declared.placed.Owner.{Owner}
use Rattle.host_map.specs.declared.placed.Owner.TheVariants.{Record}
use Rattle.host_map.specs.declared.placed.Placed.{Placed}
use Rattle.host_map.specs.declared.parts.Sizes.{Sizes}
use Rattle.host_map.specs.Blocks.{AreSingle, owned, ranges}
use Rattle.host_map.specs.MemoryMap.{MemoryMap, renamed}
use Rattle.host_map.specs.Moves.{IsPacking, packed, unpacked_behind}
use Rattle.host_map.specs.Creation.{all_placed, created_map, replaced_block, taken_over, wanted_by}
use Rattle.host_spaces.specs.declared.pieces.OldBlocks.{OldBlocks}
use Rattle.host_spaces.specs.Blocks.{Owns}
use Rattle.host_spaces.specs.Pieces.{old_piece, without_pieces}

-- where no owner has two blocks, and an instance number has none, a map has room for the records of one more instance
abbrev pub OneMoreHasRoom : List Placed → ℕ → Type 0
OneMoreHasRoom blocks i = AreSingle blocks → i < INSTANCES → ((k : ℕ) → owned (Record i k) blocks ≡ [])
    → length blocks + TABLE_RECORDS ≤ MAP_BLOCKS

-- the pieces of two owners have no word in common
abbrev pub OwnersAreApart : Type 0
OwnersAreApart = (words : ℕ) (blocks : List Placed) (o q : Owner) (s t : Span) → AreBlocks words (ranges blocks)
    → Owns blocks o s → Owns blocks q t → o ≢ q → Apart s t

-- next moves come to the packed blocks, one for each block that isn't at its packed place
abbrev pub PacksAll : List Placed → ℕ → List Placed → Type 0
PacksAll blocks n after = IsPacking blocks n after → (after ≡ packed blocks) × (n ≡ length (unpacked_behind 0 blocks))

-- a creation is made by placing all that is needed, taking out the blocks that are replaced, and taking over what is shared
abbrev pub CreationsAreMade : Type 0
CreationsAreMade = (sizes : Sizes) (map placed : MemoryMap) (i g : ℕ) (table : List MemRec) (sharers : ℕ → Option ℕ) (pieces : OldBlocks)
    → all_placed sizes map (wanted_by sharers map i g table) ≡ Ok placed
    → ((space : Space) → option_map (λ (p : Span). p.place) (old_piece pieces space) ≡ option_map (λ (b : Placed). b.place) (replaced_block map g table space))
    → created_map sizes map i g table sharers ≡ Ok (renamed (taken_over sharers i) (without_pieces placed pieces))

-- a creation is refused where not all that is needed is placed
abbrev pub CreationsAreRefused : Type 0
CreationsAreRefused = (sizes : Sizes) (map : MemoryMap) (i g : ℕ) (table : List MemRec) (sharers : ℕ → Option ℕ) (space : Space)
    → all_placed sizes map (wanted_by sharers map i g table) ≡ Err space
    → created_map sizes map i g table sharers ≡ Err space
