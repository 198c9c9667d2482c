-- Where each block of a space stands once they are packed, and which move comes next.
use Rattle.std.specs.Prelude.{◌≡◌, ◌≢◌, ℕ, zero, suc, ◌+◌, ◌<◌, ◌==◌, List, [], ◌∷◌, map, length, take, slice_index, sum_by, Option, Some, None, if◌then◌else◌}
use Rattle.std.specs.Int.{next_multiple_of}
use Rattle.relocate.specs.declared.packing.Spot.{Spot}
use Rattle.relocate.specs.declared.packing.Move.{Move}

-- each at the least multiple of its alignment not below the packed end of the block before, which is `end` for the first
abbrev pub packed_from : ℕ → List Spot → List ℕ
packed_from end [] = []
packed_from end (s ∷ ss) = let place = next_multiple_of end s.align in place ∷ packed_from (place + s.size) ss

abbrev pub packed_places : List Spot → List ℕ
packed_places spots = packed_from 0 spots

-- where they stand
abbrev pub places_of : List Spot → List ℕ
places_of spots = map (λ s. s.place) spots

-- how many words each has
abbrev pub sizes_of : List Spot → List ℕ
sizes_of spots = map (λ s. s.size) spots

-- each at its packed place
abbrev pub IsPacked : List Spot → Type 0
IsPacked spots = places_of spots ≡ packed_places spots

-- the first block that isn't at its packed place goes there
pub record IsNextMove (spots : List Spot) (m : Move) : Type 0 where
  pub block : m.index < length spots
  pub before : take m.index (places_of spots) ≡ take m.index (packed_places spots)
  pub elsewhere : slice_index (places_of spots) m.index ≢ slice_index (packed_places spots) m.index
  pub there : m.to ≡ slice_index (packed_places spots) m.index

-- the blocks that aren't at the places of the list
abbrev pub misplaced : List Spot → List ℕ → List Spot
misplaced (s ∷ ss) (to ∷ places) = let others = misplaced ss places in if s.place == to then others else s ∷ others
misplaced _ _ = []

abbrev pub unpacked_count : List Spot → ℕ
unpacked_count spots = length (misplaced spots (packed_places spots))

abbrev pub unpacked_words : List Spot → ℕ
unpacked_words spots = sum_by (λ s. s.size) (misplaced spots (packed_places spots))

-- their moves to these places. The first block has that index
abbrev pub moves_from : ℕ → List Spot → List ℕ → List Move
moves_from index (s ∷ ss) (to ∷ places) =
    let others = moves_from (suc index) ss places in if s.place == to then others else record { index = index; to = to } ∷ others
moves_from index _ _ = []

-- each block that isn't at its packed place goes there, in place order
abbrev pub packing_moves : List Spot → List Move
packing_moves spots = moves_from 0 spots (packed_places spots)

abbrev pub first_of : List Move → Option Move
first_of [] = None
first_of (m ∷ ms) = Some m

abbrev pub next_move_of : List Spot → Option Move
next_move_of spots = first_of (packing_moves spots)

-- block k at another place
abbrev pub with_place : List Spot → ℕ → ℕ → List Spot
with_place [] k to = []
with_place (s ∷ ss) zero to = record s { place = to } ∷ ss
with_place (s ∷ ss) (suc k) to = s ∷ with_place ss k to

abbrev pub after_move : List Spot → Move → List Spot
after_move spots m = with_place spots m.index m.to

-- the blocks at the places of the list
abbrev pub at_places : List Spot → List ℕ → List Spot
at_places (s ∷ ss) (to ∷ places) = record s { place = to } ∷ at_places ss places
at_places _ _ = []

abbrev pub packed_spots : List Spot → List Spot
packed_spots spots = at_places spots (packed_places spots)
