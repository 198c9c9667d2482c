-- The next move of a space's blocks is one step of its heap.
use Rattle.std.proofs.Common.{◌≡◌, ℕ, zero, suc, ◌+◌, ◌-◌, ◌^◌, ◌<◌, ◌==◌, min, false, cond, if◌then◌else◌, List, [], ◌∷◌, ◌++◌, length, get_or, set, take, drop, Option, Some, None, refl, sym, ◌∙◌, ap, subst, arith}
use Rattle.std.specs.Option.{option_map}
use Rattle.std.specs.List.{refill}
use Rattle.std.proofs.Math.Seq.{take-append_seam}
use Rattle.std.proofs.lemmas.Bool.{eqb-true}
use Rattle.std.proofs.lemmas.List.{length-map, map-append}
use Rattle.space_raw.specs.Span.{Extent, Span}
use Rattle.relocate.specs.Places.{Range, lower_place, IsAlignment, IsSpaceSize}
use Rattle.space_heap.specs.Maps.{HeapState, Holds, range_of}
use Rattle.relocate.proofs.RangeTests.{when_not}
use Rattle.relocate.specs.declared.packing.Move.{Move}
use Rattle.relocate.specs.Spots.{AreSpots, ranges_of}
use Rattle.relocate.specs.Packing.{IsPacked, next_move_of, with_place as spot_moved}
use Rattle.relocate.specs.Compaction.{IsMoveDown}
use Rattle.relocate.proofs.PackingLemmas.{place_at}
use Rattle.relocate.proofs.CompactionLemmas.{next_move_down}
use Rattle.relocate.proofs.Lowers.{around, next_lowered}
use Rattle.host_map.specs.declared.placed.Placed.{Placed}
use Rattle.host_map.specs.Blocks.{block_range, ranges}
use Rattle.host_map.specs.Moves.{block_at, block_to_move, moved, moved_by, moved_to, next_block, next_in, spot_of, spots_of}
use Rattle.host_map.proofs.MoveLemmas.{moved_is, next_is}
use Rattle.host_spaces.specs.Spaces.{AreKept, HasFront}
use Rattle.host_spaces.proofs.Keeping.{ranges_beside, whole}

ranges_spots : (bs : List Placed) → ranges_of (spots_of bs) ≡ ranges bs
ranges_spots [] = refl
ranges_spots (b ∷ bs) = ap (λ rs. block_range b ∷ rs) (ranges_spots bs)

pub spots_moved : (bs : List Placed) (k to : ℕ) → spots_of (moved_to bs k to) ≡ spot_moved (spots_of bs) k to
spots_moved [] k to = refl
spots_moved (b ∷ bs) zero to = refl
spots_moved (b ∷ bs) (suc k) to = ap (λ ss. spot_of b ∷ ss) (spots_moved bs k to)

moved_split : (bs : List Placed) (k to : ℕ) (d : Placed) → k < length bs → moved_to bs k to ≡ take k bs ++ record (get_or bs k d) { place = to } ∷ drop (suc k) bs
moved_split [] k to d lt = absurd (omega arith)
moved_split (b ∷ bs) zero to d lt = refl
moved_split (b ∷ bs) (suc k) to d lt = ap (λ xs. b ∷ xs) (moved_split bs k to d (omega arith))

pub set_moved : (bs : List Placed) (k to : ℕ) (d : Placed) → k < length bs → set bs k (record (get_or bs k d) { place = to }) ≡ moved_to bs k to
set_moved [] k to d lt = absurd (omega arith)
set_moved (b ∷ bs) zero to d lt = refl
set_moved (b ∷ bs) (suc k) to d lt = ap (λ xs. b ∷ xs) (set_moved bs k to d (omega arith))

block_inside : (bs : List Placed) (k : ℕ) (d : Placed) → k < length bs → block_at bs k ≡ Some (get_or bs k d)
block_inside [] k d lt = absurd (omega arith)
block_inside (b ∷ bs) zero d lt = refl
block_inside (b ∷ bs) (suc k) d lt = block_inside bs k d (omega arith)

place_inside : (bs : List Placed) (k : ℕ) (d : Placed) → k < length bs → place_at (spots_of bs) k ≡ (get_or bs k d).place
place_inside [] k d lt = absurd (omega arith)
place_inside (b ∷ bs) zero d lt = refl
place_inside (b ∷ bs) (suc k) d lt = place_inside bs k d (omega arith)

pub move_inside : (bs : List Placed) (m : Move) → AreSpots (spots_of bs) → next_in bs ≡ Some m → m.index < length bs
move_inside bs m order e = let lt = (next_move_down (spots_of bs) m order e).block in let same = length-map bs spot_of in omega arith

length_take : (bs : List Placed) (k : ℕ) → k < length bs → length (spots_of (take k bs)) ≡ k
length_take [] k lt = absurd (omega arith)
length_take (b ∷ bs) zero lt = refl
length_take (b ∷ bs) (suc k) lt = ap suc (length_take bs k (omega arith))

-- the piece is the block of the next move
pub record IsNext (bs : List Placed) (s : Span) : Type 0 where
  pub move : Move
  pub next : next_in bs ≡ Some move
  pub inside : move.index < length bs
  pub range : (d : Placed) → block_range (get_or bs move.index d) ≡ range_of s

is_next_by : (bs : List Placed) (s : Span) (o : Option Move) → AreSpots (spots_of bs) → next_in bs ≡ o → option_map block_range (block_to_move o bs) ≡ Some (range_of s) → IsNext bs s
is_next_by bs s None order e it = absurd (let no : None ≡ Some (range_of s) = it in cc)
is_next_by bs s (Some m) order e it =
    let lt = move_inside bs m order e in
    record {
      move = m;
      next = e;
      inside = lt;
      range = λ d. let is : Some (block_range (get_or bs m.index d)) ≡ Some (range_of s) = ap (option_map block_range) (sym (block_inside bs m.index d lt)) ∙ it in cc;
    }

pub is_next : (bs : List Placed) (s : Span) → AreSpots (spots_of bs) → option_map block_range (next_block bs) ≡ Some (range_of s) → IsNext bs s
is_next bs s order it = is_next_by bs s (next_in bs) order refl (ap (option_map block_range) (next_is bs) ∙ it)

-- its index is that of the next move
module _ (bs : List Placed) (s : Span) (nx : IsNext bs s) (k : ℕ) (is : option_map (λ (m : Move). m.index) (next_in bs) ≡ Some k) where
  index_is : nx.move.index ≡ k
  index_is = let e : Some nx.move.index ≡ Some k = ap (option_map (λ (m : Move). m.index)) (sym nx.next) ∙ is in cc

  pub index_inside : k < length bs
  index_inside = subst (λ (x : ℕ). x < length bs) index_is nx.inside

  pub stands_there : (d : Placed) → (get_or bs k d).place ≡ s.place
  stands_there d = subst (λ (x : ℕ). (get_or bs x d).place ≡ s.place) index_is (ap (λ (r : Range). r.place) (nx.range d))

module _ (heap : HeapState) (bs : List Placed) (kept : AreKept heap bs) (m : Move) (e : next_in bs ≡ Some m) (d : Placed) (some : 0 < (get_or bs m.index d).size) where
  down : IsMoveDown (spots_of bs) m
  down = next_move_down (spots_of bs) m kept.order e

  inside : m.index < length bs
  inside = move_inside bs m kept.order e

  abbrev front : List Placed
  front = take m.index bs

  abbrev b : Placed
  b = get_or bs m.index d

  abbrev back : List Placed
  back = drop (suc m.index) bs

  spots_split : spots_of bs ≡ spots_of front ++ spot_of b ∷ spots_of back
  spots_split = ap spots_of (whole bs m.index d inside) ∙ map-append spot_of front (b ∷ back)

  -- where the heap lowers it to
  pub goes_to : lower_place (ranges front ++ ranges back) b.place b.align ≡ m.to
  goes_to =
      ap (λ rs. lower_place (rs ++ ranges back) b.place b.align) (sym (ranges_spots front))
      ∙ ap (λ rs. lower_place (ranges_of (spots_of front) ++ rs) b.place b.align) (sym (ranges_spots back))
      ∙ next_lowered (spots_of front) (spot_of b) (spots_of back) m (subst AreSpots spots_split kept.order) some
      (ap next_move_of (sym spots_split) ∙ e) (sym (length_take bs m.index inside))

  pub is_lower : m.to < b.place
  is_lower = let lt = down.down in let same = place_inside bs m.index d inside in omega arith

  pub its_align : IsAlignment b.align
  its_align = (around 0 (spots_of front) (spot_of b) (spots_of back) (subst AreSpots spots_split kept.order)).is.align

  pub kept_moved : (new : HeapState) → new.region ≡ heap.region → new.slid < 2 ^ 64 → Holds new (ranges front ++ block_range (record b { place = m.to }) ∷ ranges back)
      → AreKept new (moved_to bs m.index m.to)
  kept_moved new same counted holds = record {
    size = subst (λ (g : Extent). IsSpaceSize g.size) (sym same) kept.size;
    held = subst (λ rs. Holds new rs) (sym (ap ranges (moved_split bs m.index m.to d inside) ∙ ranges_beside front (record b { place = m.to } ∷ back))) holds;
    order = subst AreSpots (sym (spots_moved bs m.index m.to)) down.order;
    counted = counted;
  }

-- the words are counted, where the place changed
pub counted_words : (now was : ℕ) (old words new : ℕ) → now < was → new ≡ min (old + (if now == was then 0 else words)) (2 ^ 64 - 1) → new ≡ min (old + words) (2 ^ 64 - 1)
counted_words now was old words new lt e =
    let differs : (now == was) ≡ false = when_not (now == was) (λ is. let same = eqb-true now was is in omega arith) in
    e ∙ ap (λ t. min (old + cond t 0 words) (2 ^ 64 - 1)) differs

pub next_found : (bs : List Placed) (m : Move) (d : Placed) → AreSpots (spots_of bs) → next_in bs ≡ Some m → Some (get_or bs m.index d) ≡ next_block bs
next_found bs m d order e =
    sym (ap (λ o. block_to_move o bs) e ∙ block_inside bs m.index d (move_inside bs m order e)) ∙ next_is bs

length_moved : (bs : List Placed) (k to : ℕ) → length (moved_to bs k to) ≡ length bs
length_moved [] k to = refl
length_moved (b ∷ bs) zero to = refl
length_moved (b ∷ bs) (suc k) to = ap suc (length_moved bs k to)

pub all_kept : (xs ws : List Placed) → length ws ≡ length xs → refill (length xs) xs ws ≡ ws
all_kept xs ws same = ap (λ n. take n (ws ++ drop (length ws) xs)) (sym same) ∙ take-append_seam ws (drop (length ws) xs)

pub put_done : (bs : List Placed) (k place : ℕ) (d : Placed) → k < length bs → refill (length bs) bs (set bs k (record (get_or bs k d) { place = place })) ≡ moved_to bs k place
put_done bs k place d lt =
    ap (refill (length bs) bs) (set_moved bs k place d lt) ∙ all_kept bs (moved_to bs k place) (length_moved bs k place)

-- the first blocks, up to the one that moved, are packed then
pub front_moved : (bs : List Placed) (m : Move) → AreSpots (spots_of bs) → next_in bs ≡ Some m → HasFront (m.index + 1) (moved bs)
front_moved bs m order e =
    let lt = move_inside bs m order e in let same = length_moved bs m.index m.to in
    subst (λ xs. HasFront (m.index + 1) xs) (ap (λ o. moved_by o bs) (sym e) ∙ moved_is bs)
    (record {
      within = omega (arith, lt, same);
      packed = subst (λ ss. IsPacked (take (m.index + 1) ss)) (sym (spots_moved bs m.index m.to)) (next_move_down (spots_of bs) m order e).front;
    })
