-- A move by the index of its block is the next move.
use Rattle.std.proofs.Common.{◌≡◌, ℕ, suc, ◌+◌, ◌==◌, Bool, true, false, List, [], ◌∷◌, length, Option, refl, ap, ◌∙◌, if◌then◌else◌}
use Rattle.std.specs.Prelude.{slice_get}
use Rattle.std.specs.Int.{next_multiple_of}
use Rattle.relocate.specs.declared.packing.Spot.{Spot}
use Rattle.relocate.specs.declared.packing.Move.{Move}
use Rattle.relocate.specs.Packing.{first_of, misplaced, moves_from, packed_from, unpacked_count}
use Rattle.host_map.specs.declared.placed.Placed.{Placed}
use Rattle.host_map.specs.Moves.{block_to_move, moved, moved_behind, moved_by, next_block, next_in, spot_of, spots_of, unpacked_behind}

-- the block of the first of the moves
abbrev first_moved : List Move → List Placed → Option Placed
first_moved ms bs = block_to_move (first_of ms) bs

-- the blocks after the first of the moves
abbrev after_first : List Move → List Placed → List Placed
after_first ms bs = moved_by (first_of ms) bs

module _ (b : Placed) (bs : List Placed) where
  block_if : (t : Bool) (k to : ℕ) (ms ns : List Move) → first_moved ms (b ∷ bs) ≡ first_moved ns bs
      → first_moved (if t then ms else record { index = suc k; to = to } ∷ ms) (b ∷ bs) ≡ first_moved (if t then ns else record { index = k; to = to } ∷ ns) bs
  block_if true k to ms ns e = e
  block_if false k to ms ns e = refl

  moved_if : (t : Bool) (k to : ℕ) (ms ns : List Move) → after_first ms (b ∷ bs) ≡ b ∷ after_first ns bs
      → after_first (if t then ms else record { index = suc k; to = to } ∷ ms) (b ∷ bs) ≡ b ∷ after_first (if t then ns else record { index = k; to = to } ∷ ns) bs
  moved_if true k to ms ns e = e
  moved_if false k to ms ns e = refl

  -- one block more before them
  block_behind : (k : ℕ) (ss : List Spot) (places : List ℕ) → first_moved (moves_from (suc k) ss places) (b ∷ bs) ≡ first_moved (moves_from k ss places) bs
  block_behind k [] places = refl
  block_behind k (s ∷ ss) [] = refl
  block_behind k (s ∷ ss) (to ∷ places) =
      block_if (s.place == to) k to (moves_from (suc (suc k)) ss places) (moves_from (suc k) ss places) (block_behind (suc k) ss places)

  blocks_behind : (k : ℕ) (ss : List Spot) (places : List ℕ) → after_first (moves_from (suc k) ss places) (b ∷ bs) ≡ b ∷ after_first (moves_from k ss places) bs
  blocks_behind k [] places = refl
  blocks_behind k (s ∷ ss) [] = refl
  blocks_behind k (s ∷ ss) (to ∷ places) =
      moved_if (s.place == to) k to (moves_from (suc (suc k)) ss places) (moves_from (suc k) ss places) (blocks_behind (suc k) ss places)

module _ (b : Placed) (bs : List Placed) (place : ℕ) where
  block_here : (t : Bool) (ms : List Move) (us : List Placed) → first_moved ms (b ∷ bs) ≡ slice_get us 0
      → first_moved (if t then ms else record { index = 0; to = place } ∷ ms) (b ∷ bs) ≡ slice_get (if t then us else b ∷ us) 0
  block_here true ms us e = e
  block_here false ms us e = refl

  moved_here : (t : Bool) (ms : List Move) (cs : List Placed) → after_first ms (b ∷ bs) ≡ b ∷ cs
      → after_first (if t then ms else record { index = 0; to = place } ∷ ms) (b ∷ bs) ≡ (if t then b ∷ cs else record b { place = place } ∷ bs)
  moved_here true ms cs e = e
  moved_here false ms cs e = refl

next_behind : (end : ℕ) (bs : List Placed) → first_moved (moves_from 0 (spots_of bs) (packed_from end (spots_of bs))) bs ≡ slice_get (unpacked_behind end bs) 0
next_behind end [] = refl
next_behind end (b ∷ bs) =
    let place = next_multiple_of end b.align in
    let ss = spots_of bs in let places = packed_from (place + b.size) ss in
    block_here b bs place (b.place == place) (moves_from 1 ss places) (unpacked_behind (place + b.size) bs)
    (block_behind b bs 0 ss places ∙ next_behind (place + b.size) bs)

moves_behind : (end : ℕ) (bs : List Placed) → after_first (moves_from 0 (spots_of bs) (packed_from end (spots_of bs))) bs ≡ moved_behind end bs
moves_behind end [] = refl
moves_behind end (b ∷ bs) =
    let place = next_multiple_of end b.align in
    let ss = spots_of bs in let places = packed_from (place + b.size) ss in
    moved_here b bs place (b.place == place) (moves_from 1 ss places) (moved_behind (place + b.size) bs)
    (blocks_behind b bs 0 ss places ∙ ap (λ cs. b ∷ cs) (moves_behind (place + b.size) bs))

-- the block of the next move, by its index
pub next_is : (bs : List Placed) → block_to_move (next_in bs) bs ≡ next_block bs
next_is bs = next_behind 0 bs

-- the blocks after the next move
pub moved_is : (bs : List Placed) → moved_by (next_in bs) bs ≡ moved bs
moved_is bs = moves_behind 0 bs

count_if : (t : Bool) (b : Placed) (ss : List Spot) (us : List Placed) → length us ≡ length ss → length (if t then us else b ∷ us) ≡ length (if t then ss else spot_of b ∷ ss)
count_if true b ss us e = e
count_if false b ss us e = ap suc e

count_behind : (end : ℕ) (bs : List Placed) → length (unpacked_behind end bs) ≡ length (misplaced (spots_of bs) (packed_from end (spots_of bs)))
count_behind end [] = refl
count_behind end (b ∷ bs) =
    let place = next_multiple_of end b.align in
    let ss = spots_of bs in
    count_if (b.place == place) b (misplaced ss (packed_from (place + b.size) ss)) (unpacked_behind (place + b.size) bs) (count_behind (place + b.size) bs)

-- how many blocks aren't at their packed places, by how they stand
pub count_is : (bs : List Placed) → length (unpacked_behind 0 bs) ≡ unpacked_count (spots_of bs)
count_is bs = count_behind 0 bs
