-- A block that is put among others in place order, and one that is taken out.
use Rattle.std.proofs.Common.{◌≡◌, ℕ, suc, ◌+◌, ◌*◌, ◌%◌, ◌<◌, ◌≤◌, Bool, false, cond, List, [], ◌∷◌, ◌++◌, map, Some, ◌∙◌, ap, arith}
use Rattle.std.specs.Prelude.{find}
use Rattle.std.specs.List.{list_any}
use Rattle.std.proofs.Math.Nat.{mul-mod_left}
use Rattle.std.proofs.lemmas.Bool.{cases_lt}
use Rattle.relocate.specs.Places.{Range, end_of, is_free, least_place, meets}
use Rattle.space_heap.specs.Maps.{AreBlocks}
use Rattle.relocate.proofs.RangeTests.{both_false, clash, either, meet_if, meet_sym, true_or_false}
use Rattle.relocate.specs.Spots.{AreSpotsFrom, IsSpot}
use Rattle.relocate.proofs.PackingLemmas.{from_lower}
use Rattle.host_map.specs.declared.placed.Placed.{Placed}
use Rattle.host_map.specs.Blocks.{block_range, ranges}
use Rattle.host_map.specs.Moves.{spot_of, spots_of}
use Rattle.host_spaces.proofs.Orders.{AreSortedFrom, BeginBefore, BeginsFrom, sorted_lower}

-- of two that don't meet one ends before the other begins
ends_before : (r s : Range) → 0 < s.size → meets r s ≡ false → r.place ≤ s.place → end_of r ≤ s.place
ends_before r s some apart le = either (cases_lt s.place (end_of r)) (λ lt. clash (meets r s) (meet_if r s (omega arith) lt) apart) (λ ge. ge)

-- blocks with another one in its place keep the order, where it meets none
pub order_with : (words from : ℕ) (xs : List Placed) (b : Placed) (ys : List Placed) → AreSpotsFrom from (spots_of (xs ++ ys)) → IsSpot (spot_of b) → 0 < b.size → from ≤ b.place
    → BeginBefore b.place xs → BeginsFrom b.place ys → list_any (meets (block_range b)) (ranges (xs ++ ys)) ≡ false → AreBlocks words (ranges (xs ++ ys))
    → AreSpotsFrom from (spots_of (xs ++ b ∷ ys))
order_with words from [] b [] are is some low up behind apart blocks = (is, low, tt)
order_with words from [] b (y ∷ ys) are is some low up behind apart blocks =
    let more = blocks.0.some in
    (is, low, (are.0, ends_before (block_range b) (block_range y) more (both_false (meets (block_range b) (block_range y)) (list_any (meets (block_range b)) (ranges ys)) apart).0 behind, are.2))
order_with words from (x ∷ xs) b ys are is some low up behind apart blocks =
    let both = both_false (meets (block_range b) (block_range x)) (list_any (meets (block_range b)) (ranges (xs ++ ys))) apart in
    let first = up.0 in
    let next = ends_before (block_range x) (block_range b) some (meet_sym (block_range b) (block_range x) both.0) (omega arith) in
    (are.0, are.1, order_with words (x.place + x.size) xs b ys are.2 is some next up.1 behind both.1 blocks.2)

-- blocks without one of them keep the order
pub order_without : (from : ℕ) (xs : List Placed) (b : Placed) (ys : List Placed) → AreSpotsFrom from (spots_of (xs ++ b ∷ ys)) → AreSpotsFrom from (spots_of (xs ++ ys))
order_without from [] b ys are = let low = are.1 in from_lower (b.place + b.size) from (spots_of ys) are.2 (omega arith)
order_without from (x ∷ xs) b ys are = (are.0, are.1, order_without (x.place + x.size) xs b ys are.2)

found_multiple : (test : ℕ → Bool) (align : ℕ) (ks : List ℕ) (p : ℕ) → Some p ≡ find test (map (λ k. k * align) ks) → p % align ≡ 0
found_multiple test align [] p e = cc
found_multiple test align (k ∷ ks) p e =
    let others = find test (map (λ j. j * align) ks) in
    either (true_or_false (test (k * align)))
    (λ pass. let is : Some p ≡ Some (k * align) = e ∙ ap (λ b. cond b (Some (k * align)) others) pass in let same : p ≡ k * align = cc in ap (λ n. n % align) same ∙ mul-mod_left k align)
    (λ fail. found_multiple test align ks p (e ∙ ap (λ b. cond b (Some (k * align)) others) fail))

-- the least place is a multiple of the alignment
pub least_place_multiple : (words : ℕ) (taken : List Range) (size align p : ℕ) → Some p ≡ least_place words taken size align → p % align ≡ 0
least_place_multiple words taken size align p e =
    found_multiple (λ place. is_free words taken (record { place = place; size = size })) align _ p e

-- blocks in place order, each of some words, begin at different places
pub sorted : (words from : ℕ) (bs : List Placed) → AreSpotsFrom from (spots_of bs) → AreBlocks words (ranges bs) → AreSortedFrom from bs
sorted words from [] are blocks = tt
sorted words from (b ∷ bs) are blocks =
    let some = blocks.0.some in (are.1, sorted_lower (b.place + b.size) (suc b.place) bs (sorted words (b.place + b.size) bs are.2 blocks.2) (omega arith))
