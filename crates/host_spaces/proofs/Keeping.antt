-- What a space keeps: its blocks are those that its heap holds.
use Rattle.std.proofs.Common.{◌≡◌, ℕ, suc, ◌%◌, ◌<◌, ◌^◌, false, List, ◌∷◌, ◌++◌, length, get_or, take, drop, remove, Contains, refl, sym, ap, subst, ◌∙◌, arith}
use Rattle.std.proofs.lemmas.List.{take-append-drop, map-append}
use Rattle.std.proofs.Math.Seq.{drop-cons}
use Rattle.space_raw.specs.Span.{Extent, Span}
use Rattle.std.specs.List.{list_any}
use Rattle.relocate.specs.Places.{Range, meets, IsAlignment, IsSpaceSize}
use Rattle.space_heap.specs.Maps.{AreBlocks, HeapState, Holds, IsBlock, range_of}
use Rattle.space_heap.proofs.MapLemmas.{block_out}
use Rattle.relocate.specs.Spots.{AreSpots}
use Rattle.host_map.specs.declared.placed.Owner.{Owner}
use Rattle.host_map.specs.declared.placed.Placed.{Placed}
use Rattle.host_spaces.specs.Blocks.{Owns, block_of}
use Rattle.host_map.specs.Blocks.{block_range, ranges, with_block, without_at}
use Rattle.host_map.specs.Moves.{spots_of}
use Rattle.host_spaces.specs.Spaces.{AreKept}
use Rattle.host_spaces.proofs.Inserts.{order_with, order_without, sorted}
use Rattle.host_spaces.proofs.Orders.{AreSortedFrom, put_in, removed_at, same_index, without_with}
use Rattle.host_spaces.proofs.Owners.{stands}

pub whole : (bs : List Placed) (k : ℕ) (d : Placed) → k < length bs → bs ≡ take k bs ++ get_or bs k d ∷ drop (suc k) bs
whole bs k d lt = sym (take-append-drop k bs) ∙ ap (λ ys. take k bs ++ ys) (drop-cons bs k d lt)

pub ranges_beside : (xs ys : List Placed) → ranges (xs ++ ys) ≡ ranges xs ++ ranges ys
ranges_beside xs ys = map-append block_range xs ys

pub kept_sorted : (heap : HeapState) (bs : List Placed) → AreKept heap bs → AreSortedFrom 0 bs
kept_sorted heap bs kept = sorted heap.region.size 0 bs kept.order kept.held.placed

module _ (old new : HeapState) (same : new.region ≡ old.region) (slid : new.slid ≡ old.slid) (bs : List Placed) (kept : AreKept old bs) where
  new_size : IsSpaceSize new.region.size
  new_size = subst (λ (g : Extent). IsSpaceSize g.size) (sym same) kept.size

  still_counted : new.slid < 2 ^ 64
  still_counted = let was = kept.counted in omega arith

  -- a block is taken
  pub kept_with : (b : Placed) → IsAlignment b.align → b.place % b.align ≡ 0
      → ((before after : List Range) → Holds old (before ++ after) → Holds new (before ++ block_range b ∷ after)) → AreKept new (with_block b bs)
  kept_with b align multiple taken =
      let p = put_in b bs in
      let was = subst (λ xs. AreKept old xs) p.split kept in
      let holds : Holds new (ranges p.left ++ block_range b ∷ ranges p.right) =
      taken (ranges p.left) (ranges p.right) (subst (λ rs. Holds old rs) (ranges_beside p.left p.right) was.held) in
      let out = block_out new.region.size (ranges p.left) (block_range b) (ranges p.right) holds.placed in
      let most = new_size.0 in let inside = out.0.inside in
      record {
        size = new_size;
        held = subst (λ rs. Holds new rs) (sym (ap ranges p.joined ∙ ranges_beside p.left (b ∷ p.right))) holds;
        order =
            subst (λ xs. AreSpots (spots_of xs)) (sym p.joined)
            (order_with new.region.size 0 p.left b p.right was.order
            (record { align = align; place = multiple; inside = omega arith }) out.0.some (omega arith) p.low p.high
            (subst (λ rs. list_any (meets (block_range b)) rs ≡ false) (sym (ranges_beside p.left p.right)) out.1)
            (subst (AreBlocks new.region.size) (sym (ranges_beside p.left p.right)) out.2));
        counted = still_counted;
      }

  module _ (k : ℕ) (d : Placed) (lt : k < length bs) where
    pub split_held : Holds old (ranges (take k bs) ++ block_range (get_or bs k d) ∷ ranges (drop (suc k) bs))
    split_held = subst (λ rs. Holds old rs) (ap ranges (whole bs k d lt) ∙ ranges_beside (take k bs) (get_or bs k d ∷ drop (suc k) bs)) kept.held

    pub its_block : IsBlock old.region.size (block_range (get_or bs k d))
    its_block = (block_out old.region.size (ranges (take k bs)) (block_range (get_or bs k d)) (ranges (drop (suc k) bs)) split_held.placed).0

    -- a block is given back
    pub kept_without : ((before after : List Range) → Holds old (before ++ block_range (get_or bs k d) ∷ after) → Holds new (before ++ after)) → AreKept new (remove bs k)
    kept_without given = record {
      size = new_size;
      held = subst (λ rs. Holds new rs) (sym (ranges_beside (take k bs) (drop (suc k) bs))) (given (ranges (take k bs)) (ranges (drop (suc k) bs)) split_held);
      order = order_without 0 (take k bs) (get_or bs k d) (drop (suc k) bs) (subst (λ xs. AreSpots (spots_of xs)) (whole bs k d lt) kept.order);
      counted = still_counted;
    }

-- a new block has its piece's place and size
pub entered : (owner : Owner) (align place size : ℕ) (s : Span) (bs new : List Placed) →
    new ≡ with_block (record { owner = owner; place = place; size = size; align = align }) bs → place ≡ s.place → size ≡ length s.words
    → new ≡ with_block (block_of owner align s) bs
entered owner align place size s bs new e at long =
    e ∙ ap (λ n. with_block (record { owner = owner; place = n; size = size; align = align }) bs) at
    ∙ ap (λ n. with_block (record { owner = owner; place = s.place; size = n; align = align }) bs) long

-- an owner's piece stands among the blocks
pub stands_there : (bs slice : List Placed) (owner : Owner) (s : Span) (place : ℕ) → Owns bs owner s → slice ≡ bs → place ≡ s.place
    → (b : Placed) × Contains slice b × (b.place ≡ place)
stands_there bs slice owner s place it same at =
    let w = stands bs owner s it in let b = block_of owner w.align s in
    subst (λ (xs : List Placed). (c : Placed) × Contains xs c × (c.place ≡ place)) (sym same) (b, (w.index, w.inside, w.is), sym at)

-- the block of an index is where an owner's piece is
module _ (heap : HeapState) (bs : List Placed) (kept : AreKept heap bs) (owner : Owner) (s : Span) (it : Owns bs owner s) (k : ℕ) (lt : k < length bs)
    (at : (d : Placed) → (get_or bs k d).place ≡ s.place) where
  abbrev blank : Placed
  blank = block_of owner (stands bs owner s it).align s

  its_index : k ≡ (stands bs owner s it).index
  its_index =
      let w = stands bs owner s it in
      same_index 0 bs k w.index blank blank (kept_sorted heap bs kept) lt w.inside (at blank ∙ sym (ap (λ (b : Placed). b.place) w.is))

  its_range : block_range (get_or bs k blank) ≡ range_of s
  its_range = ap (λ n. block_range (get_or bs n blank)) its_index ∙ ap block_range (stands bs owner s it).is

  pub piece_block : IsBlock heap.region.size (range_of s)
  piece_block = subst (IsBlock heap.region.size) its_range (its_block heap heap refl refl bs kept k blank lt)

  pub kept_given : (new : HeapState) → new.region ≡ heap.region → new.slid ≡ heap.slid
      → ((before after : List Range) → Holds heap (before ++ range_of s ∷ after) → Holds new (before ++ after)) → AreKept new (remove bs k)
  kept_given new same slid given =
      kept_without heap new same slid bs kept k blank lt
      (λ before after holds. given before after (subst (λ r. Holds heap (before ++ r ∷ after)) its_range holds))

  pub is_without : remove bs k ≡ without_at s.place bs
  is_without = removed_at 0 bs k blank (kept_sorted heap bs kept) lt ∙ ap (λ n. without_at n bs) (at blank)

-- a new block is the only one that begins at its place
pub taken_back : (heap : HeapState) (bs : List Placed) (b : Placed) → AreKept heap (with_block b bs) → without_at b.place (with_block b bs) ≡ bs
taken_back heap bs b kept = without_with 0 b bs (kept_sorted heap (with_block b bs) kept)
