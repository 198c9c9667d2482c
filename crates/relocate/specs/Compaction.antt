-- A move, and moves until there is none.
use Rattle.std.specs.Prelude.{◌≡◌, ◌+◌, ◌<◌, List, [], ◌∷◌, ◌++◌, take, map, length, Some, None, slice_index, sum_by}
use Rattle.std.specs.List.Sorted.{IsStrictlyIncreasing}
use Rattle.relocate.specs.declared.packing.Spot.{Spot}
use Rattle.relocate.specs.declared.packing.Move.{Move}
use Rattle.relocate.specs.Places.{lower_place}
use Rattle.relocate.specs.Spots.{AreSpots, range_of, ranges_of}
use Rattle.relocate.specs.Packing.{IsPacked, places_of, sizes_of, after_move, next_move_of, packed_spots, packing_moves, unpacked_count, unpacked_words}

-- a block goes down and keeps the order, and then the blocks up to it are packed
pub record IsMoveDown (spots : List Spot) (m : Move) : Type 0 where
  pub block : m.index < length spots
  pub down : m.to < slice_index (places_of spots) m.index
  pub order : AreSpots (after_move spots m)
  pub front : IsPacked (take (m.index + 1) (after_move spots m))
  -- one block less is unpacked
  pub count : unpacked_count (after_move spots m) + 1 ≡ unpacked_count spots
  pub words : unpacked_words (after_move spots m) + slice_index (sizes_of spots) m.index ≡ unpacked_words spots

-- these are the next moves, each after the one before, and then there is none
abbrev pub IsCompaction : List Spot → List Move → List Spot → Type 0
IsCompaction spots [] after = (next_move_of spots ≡ None) × (after ≡ spots)
IsCompaction spots (m ∷ ms) after = (next_move_of spots ≡ Some m) × IsCompaction (after_move spots m) ms after

-- each block that isn't at its packed place goes there, once, and no other is moved
pub record PacksOnce (spots : List Spot) (moves : List Move) (after : List Spot) : Type 0 where
  pub each : moves ≡ packing_moves spots
  pub count : length moves ≡ unpacked_count spots
  pub words : sum_by (λ m. slice_index (sizes_of spots) m.index) moves ≡ unpacked_words spots
  pub once : IsStrictlyIncreasing (map (λ m. m.index) moves)
  pub places : after ≡ packed_spots spots
  pub packed : IsPacked after

-- ---- laws

-- the next move of blocks takes one down
abbrev pub NextMovesGoDown : Type 0
NextMovesGoDown = (spots : List Spot) (m : Move) → AreSpots spots → next_move_of spots ≡ Some m → IsMoveDown spots m

-- after the moves of a packing there is no next one
abbrev pub CompactionsEnd : Type 0
CompactionsEnd = (spots : List Spot) → (after : List Spot) × IsCompaction spots (packing_moves spots) after

-- next moves until there is none are those of a packing
abbrev pub CompactionsPackOnce : Type 0
CompactionsPackOnce = (spots : List Spot) (moves : List Move) (after : List Spot) → IsCompaction spots moves after → PacksOnce spots moves after

-- the next move takes its block where a heap of the other blocks would lower it to
abbrev pub NextMovesLower : Type 0
NextMovesLower = (before : List Spot) (s : Spot) (after : List Spot) (m : Move) → AreSpots (before ++ s ∷ after) → 0 < s.size
    → next_move_of (before ++ s ∷ after) ≡ Some m → m.index ≡ length before
    → lower_place (ranges_of before ++ ranges_of after) s.place s.align ≡ m.to

-- a move changes the range of its block alone
abbrev pub MovesChangeOneRange : Type 0
MovesChangeOneRange = (before : List Spot) (s : Spot) (after : List Spot) (m : Move) → m.index ≡ length before
    → ranges_of (after_move (before ++ s ∷ after) m) ≡ ranges_of before ++ range_of (record s { place = m.to }) ∷ ranges_of after
