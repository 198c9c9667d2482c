-- The heap lowers the first block that isn't packed to its packed place.
use Rattle.std.proofs.Common.{◌≡◌, ℕ, ◌+◌, ◌<◌, ◌≤◌, max, cond, List, [], ◌∷◌, ◌++◌, length, take, refl, sym, ◌∙◌, ap, subst, arith, Some}
use Rattle.std.specs.Prelude.{fold, nat_le, if◌then◌else◌}
use Rattle.std.specs.Int.{next_multiple_of}
use Rattle.std.proofs.Math.Seq.{take-append_seam}
use Rattle.std.proofs.lemmas.Bool.{le-leb, lt-leb}
use Rattle.relocate.specs.Places.{Range, end_of, free_from, lower_place}
use Rattle.relocate.specs.declared.packing.Spot.{Spot}
use Rattle.relocate.specs.declared.packing.Move.{Move}
use Rattle.relocate.specs.Spots.{AreSpots, AreSpotsFrom, IsSpot, range_of, ranges_of}
use Rattle.relocate.specs.Packing.{next_move_of, with_place, after_move}
use Rattle.relocate.proofs.Multiples.{least_multiple}
use Rattle.relocate.specs.Ends.{end_from}
use Rattle.relocate.proofs.PackingLemmas.{align_at}
use Rattle.relocate.proofs.CompactionLemmas.{next_goes}

pub end_grows : (from : ℕ) (ss : List Spot) → AreSpotsFrom from ss → from ≤ end_from from ss
end_grows from [] are = omega arith
end_grows from (s ∷ ss) are = let low = are.1 in let rest = end_grows (s.place + s.size) ss are.2 in omega arith

-- the blocks before one, the block, and those behind it
pub record AreAround (from : ℕ) (before : List Spot) (s : Spot) (after : List Spot) : Type 0 where
  pub left : AreSpotsFrom from before
  pub is : IsSpot s
  pub low : end_from from before ≤ s.place
  pub right : AreSpotsFrom (s.place + s.size) after

pub around : (from : ℕ) (xs : List Spot) (s : Spot) (ys : List Spot) → AreSpotsFrom from (xs ++ s ∷ ys) → AreAround from xs s ys
around from [] s ys are = record { left = tt; is = are.0; low = are.1; right = are.2 }
around from (x ∷ xs) s ys are =
    let rest = around (x.place + x.size) xs s ys are.2 in
    record { left = (are.0, are.1, rest.left); is = rest.is; low = rest.low; right = rest.right }

module _ (place : ℕ) where
  abbrev further : ℕ → Range → ℕ
  further start r = if nat_le (end_of r) place then max start (end_of r) else start

  reaches : (start : ℕ) (r : Range) → end_of r ≤ place → further start r ≡ max start (end_of r)
  reaches start r le = ap (λ b. cond b (max start (end_of r)) start) (le-leb (end_of r) place le)

  stays : (start : ℕ) (r : Range) → place < end_of r → further start r ≡ start
  stays start r lt = ap (λ b. cond b (max start (end_of r)) start) (lt-leb (end_of r) place lt)

  before_place : (start : ℕ) (ss : List Spot) (others : List Range) → AreSpotsFrom start ss → end_from start ss ≤ place
      → fold further start (ranges_of ss ++ others) ≡ fold further (end_from start ss) others
  before_place start [] others are le = refl
  before_place start (s ∷ ss) others are le =
      let low = are.1 in let grows = end_grows (s.place + s.size) ss are.2 in
      let step : further start (range_of s) ≡ s.place + s.size = reaches start (range_of s) (omega arith) ∙ (let e : max start (s.place + s.size) ≡ s.place + s.size = omega arith in e) in
      ap (λ n. fold further n (ranges_of ss ++ others)) step ∙ before_place (s.place + s.size) ss others are.2 le

  behind_place : (start low : ℕ) (ss : List Spot) → AreSpotsFrom low ss → place < low → fold further start (ranges_of ss) ≡ start
  behind_place start low [] are lt = refl
  behind_place start low (s ∷ ss) are lt =
      let from = are.1 in
      ap (λ n. fold further n (ranges_of ss)) (stays start (range_of s) (omega arith)) ∙ behind_place start (s.place + s.size) ss are.2 (omega arith)

-- the free range before a block begins where the block before it ends
pub free_from_end : (before : List Spot) (s : Spot) (after : List Spot) → AreSpots (before ++ s ∷ after) → 0 < s.size → free_from (ranges_of before ++ ranges_of after) s.place ≡ end_from 0 before
free_from_end before s after are some =
    let a = around 0 before s after are in
    before_place s.place 0 before (ranges_of after) a.left a.low ∙ behind_place s.place (end_from 0 before) (s.place + s.size) after a.right (omega arith)

-- the block is lowered to the least multiple of its alignment behind the block before it
pub lowered_to : (before : List Spot) (s : Spot) (after : List Spot) → AreSpots (before ++ s ∷ after) → 0 < s.size
    → lower_place (ranges_of before ++ ranges_of after) s.place s.align ≡ next_multiple_of (end_from 0 before) s.align
lowered_to before s after are some =
    let a = around 0 before s after are in let low = a.low in let is = a.is in
    let free = ap (λ n. next_multiple_of n s.align) (free_from_end before s after are some) in
    let le = least_multiple (end_from 0 before) s.align s.place is.align.0 low is.place in omega arith

align_behind : (before : List Spot) (s : Spot) (after : List Spot) → align_at (before ++ s ∷ after) (length before) ≡ s.align
align_behind [] s after = refl
align_behind (x ∷ xs) s after = align_behind xs s after

-- the heap does the next move
pub next_lowered : (before : List Spot) (s : Spot) (after : List Spot) (m : Move) → AreSpots (before ++ s ∷ after) → 0 < s.size
    → next_move_of (before ++ s ∷ after) ≡ Some m → m.index ≡ length before → lower_place (ranges_of before ++ ranges_of after) s.place s.align ≡ m.to
next_lowered before s after m are some e index =
    let spots = before ++ s ∷ after in
    let goes : m.to ≡ next_multiple_of (end_from 0 (take (length before) spots)) (align_at spots (length before)) =
    subst (λ k. m.to ≡ next_multiple_of (end_from 0 (take k spots)) (align_at spots k)) index (next_goes spots m e) in
    lowered_to before s after are some
    ∙ sym (goes ∙ ap (λ xs. next_multiple_of (end_from 0 xs) (align_at spots (length before))) (take-append_seam before (s ∷ after)) ∙ ap (next_multiple_of (end_from 0 before)) (align_behind before s after))

-- the blocks after a move

with_place-at : (before : List Spot) (s : Spot) (after : List Spot) (to : ℕ) → with_place (before ++ s ∷ after) (length before) to ≡ before ++ record s { place = to } ∷ after
with_place-at [] s after to = refl
with_place-at (x ∷ xs) s after to = ap (λ (ss : List Spot). x ∷ ss) (with_place-at xs s after to)

ranges-around : (before : List Spot) (s : Spot) (after : List Spot) → ranges_of (before ++ s ∷ after) ≡ ranges_of before ++ range_of s ∷ ranges_of after
ranges-around [] s after = refl
ranges-around (x ∷ xs) s after = ap (λ (rs : List Range). range_of x ∷ rs) (ranges-around xs s after)

pub ranges_moved : (before : List Spot) (s : Spot) (after : List Spot) (m : Move) → m.index ≡ length before
    → ranges_of (after_move (before ++ s ∷ after) m) ≡ ranges_of before ++ range_of (record s { place = m.to }) ∷ ranges_of after
ranges_moved before s after m index =
    ap (λ k. ranges_of (with_place (before ++ s ∷ after) k m.to)) index
    ∙ ap ranges_of (with_place-at before s after m.to)
    ∙ ranges-around before (record s { place = m.to }) after
