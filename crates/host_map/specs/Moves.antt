-- The packed places of a space's blocks, and the next move there.
use Rattle.std.specs.Prelude.{◌≡◌, ◌==◌, ◌+◌, ℕ, zero, suc, List, [], ◌∷◌, map, slice_get, Option, Some, None, if◌then◌else◌}
use Rattle.std.specs.Int.{next_multiple_of}
use Rattle.relocate.specs.declared.packing.Spot.{Spot}
use Rattle.relocate.specs.declared.packing.Move.{Move}
use Rattle.relocate.specs.Packing.{next_move_of}
use Rattle.host_map.specs.declared.placed.Placed.{Placed}

-- the blocks at their packed places: each at the least multiple of its alignment not below the packed end of the block before, which is `end` for
-- the first
abbrev pub packed_behind : ℕ → List Placed → List Placed
packed_behind end [] = []
packed_behind end (b ∷ bs) = let place = next_multiple_of end b.align in record b { place = place } ∷ packed_behind (place + b.size) bs

-- the first block that isn't at its packed place goes there
abbrev pub moved_behind : ℕ → List Placed → List Placed
moved_behind end [] = []
moved_behind end (b ∷ bs) =
    let place = next_multiple_of end b.align in if b.place == place then b ∷ moved_behind (place + b.size) bs else record b { place = place } ∷ bs

-- the blocks that aren't at their packed places
abbrev pub unpacked_behind : ℕ → List Placed → List Placed
unpacked_behind end [] = []
unpacked_behind end (b ∷ bs) =
    let place = next_multiple_of end b.align in let others = unpacked_behind (place + b.size) bs in if b.place == place then others else b ∷ others

-- the block that moves next, if there is one
abbrev pub next_block : List Placed → Option Placed
next_block blocks = slice_get (unpacked_behind 0 blocks) 0

-- ---- what contracts of code say: a move is of the block of an index

-- the blocks after the next move, if there is one
abbrev pub moved : List Placed → List Placed
moved blocks = moved_behind 0 blocks

-- the blocks once next moves were made until there was none
abbrev pub packed : List Placed → List Placed
packed blocks = packed_behind 0 blocks

-- how a block stands in its space, whoever owns it
abbrev pub spot_of : Placed → Spot
spot_of b = record { place = b.place; size = b.size; align = b.align }

abbrev pub spots_of : List Placed → List Spot
spots_of blocks = map spot_of blocks

-- which block moves next, and where it goes: the first one that isn't at its packed place
abbrev pub next_in : List Placed → Option Move
next_in blocks = next_move_of (spots_of blocks)

-- the block of that index
abbrev pub block_at : List Placed → ℕ → Option Placed
block_at [] index = None
block_at (b ∷ bs) zero = Some b
block_at (b ∷ bs) (suc index) = block_at bs index

abbrev pub block_to_move : Option Move → List Placed → Option Placed
block_to_move None blocks = None
block_to_move (Some m) blocks = block_at blocks m.index

-- the block of that index at another place
abbrev pub moved_to : List Placed → ℕ → ℕ → List Placed
moved_to [] index to = []
moved_to (b ∷ bs) zero to = record b { place = to } ∷ bs
moved_to (b ∷ bs) (suc index) to = b ∷ moved_to bs index to

abbrev pub moved_by : Option Move → List Placed → List Placed
moved_by None blocks = blocks
moved_by (Some m) blocks = moved_to blocks m.index m.to

-- after so many next moves there is none, and these are the blocks then
abbrev pub IsPacking : List Placed → ℕ → List Placed → Type 0
IsPacking blocks zero after = (next_in blocks ≡ None) × (after ≡ blocks)
IsPacking blocks (suc n) after = (m : Move) × (next_in blocks ≡ Some m) × IsPacking (moved_to blocks m.index m.to) n after
