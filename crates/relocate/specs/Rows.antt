-- Worked rows: blocks by place, size and alignment, and where they go.
use Rattle.std.specs.Prelude.{◌≡◌, ℕ, [], ◌∷◌, Some, None}
use Rattle.relocate.specs.declared.packing.Spot.{Spot}
use Rattle.relocate.specs.declared.packing.Move.{Move}
use Rattle.relocate.specs.Packing.{next_move_of, packed_places, packing_moves, unpacked_count, unpacked_words}

abbrev pub spot : ℕ → ℕ → ℕ → Spot
spot place size align = record { place = place; size = size; align = align }

abbrev pub move_to : ℕ → ℕ → Move
move_to index to = record { index = index; to = to }

pub record MoveRows : Type 0 where
  pub without_blocks : next_move_of [] ≡ None
  pub one_block : next_move_of (spot 16 260 16 ∷ []) ≡ Some (move_to 0 0)
  -- the gap that an alignment makes is none
  pub packed : next_move_of (spot 0 4 4 ∷ spot 8 4 8 ∷ []) ≡ None
  pub coarsest : next_move_of (spot 0 4 4 ∷ spot 1024 4 1024 ∷ spot 1028 64508 4 ∷ []) ≡ None
  pub second : next_move_of (spot 0 4 4 ∷ spot 16 4 8 ∷ spot 20 4 4 ∷ []) ≡ Some (move_to 1 8)
  -- a block that could go lower isn't the next one while a block before it isn't packed
  pub first_of_two : next_move_of (spot 4 4 4 ∷ spot 16 4 4 ∷ []) ≡ Some (move_to 0 0)
  -- to the first multiple of its alignment behind the block before it, not to the end of that block
  pub aligned : next_move_of (spot 0 260 4 ∷ spot 512 4 256 ∷ spot 1024 4 256 ∷ []) ≡ Some (move_to 2 768)
  pub at_the_end : next_move_of (spot 0 65528 4 ∷ spot 65532 4 4 ∷ []) ≡ Some (move_to 1 65528)

pub record CompactionRows : Type 0 where
  pub places : packed_places (spot 0 4 4 ∷ spot 16 4 8 ∷ spot 20 4 4 ∷ []) ≡ 0 ∷ 8 ∷ 12 ∷ []
  pub moves : packing_moves (spot 0 4 4 ∷ spot 16 4 8 ∷ spot 20 4 4 ∷ []) ≡ move_to 1 8 ∷ move_to 2 12 ∷ []
  pub count : unpacked_count (spot 0 4 4 ∷ spot 16 4 8 ∷ spot 20 4 4 ∷ []) ≡ 2
  pub words : unpacked_words (spot 272 264 16 ∷ []) ≡ 264
  -- a block that its alignment holds back stays
  pub between : packing_moves (spot 4 4 4 ∷ spot 16 12 16 ∷ spot 28 4 4 ∷ spot 40 8 8 ∷ []) ≡ move_to 0 0 ∷ move_to 3 32 ∷ []
  pub words_between : unpacked_words (spot 4 4 4 ∷ spot 16 12 16 ∷ spot 28 4 4 ∷ spot 40 8 8 ∷ []) ≡ 12
