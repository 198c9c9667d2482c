-- Packed places, the blocks that aren't there, and what a move changes.
use Rattle.std.proofs.Common.{◌≡◌, ℕ, zero, suc, ◌+◌, ◌%◌, ◌<◌, ◌≤◌, false, cond, List, [], ◌∷◌, map, length, take, refl, sym, ◌∙◌, ap, subst, arith}
use Rattle.std.specs.Prelude.{nat_eq, sum_by, slice_index}
use Rattle.std.specs.Int.{next_multiple_of}
use Rattle.std.proofs.lemmas.Bool.{eq-eqb}
use Rattle.std.proofs.lemmas.Bool.Decides.{eqb_tells}
use Rattle.std.proofs.lemmas.List.Sums.{sum_by-cons}
use Rattle.relocate.proofs.RangeTests.{either}
use Rattle.relocate.specs.declared.packing.Spot.{Spot}
use Rattle.relocate.specs.declared.packing.Move.{Move}
use Rattle.relocate.specs.Spots.{AreSpotsFrom}
use Rattle.relocate.specs.Ends.{end_from}
use Rattle.relocate.proofs.Multiples.{least_multiple, next_is}
use Rattle.relocate.specs.Packing.{packed_from, misplaced, moves_from, places_of, sizes_of, with_place}

abbrev pub words_of : List Spot → ℕ
words_of spots = sum_by (λ s. s.size) spots

-- a move changes no packed place
pub packed_from-with_place : (end : ℕ) (ss : List Spot) (k to : ℕ) → packed_from end (with_place ss k to) ≡ packed_from end ss
packed_from-with_place end [] k to = refl
packed_from-with_place end (s ∷ ss) zero to = refl
packed_from-with_place end (s ∷ ss) (suc k) to =
    ap (λ places. next_multiple_of end s.align ∷ places) (packed_from-with_place (next_multiple_of end s.align + s.size) ss k to)

pub sizes-with_place : (ss : List Spot) (k to : ℕ) → sizes_of (with_place ss k to) ≡ sizes_of ss
sizes-with_place [] k to = refl
sizes-with_place (s ∷ ss) zero to = refl
sizes-with_place (s ∷ ss) (suc k) to = ap (λ sizes. s.size ∷ sizes) (sizes-with_place ss k to)

-- the first block is at its place, or it isn't
module _ (index : ℕ) (s : Spot) (ss : List Spot) (to : ℕ) (places : List ℕ) where
  pub moves-at : s.place ≡ to → moves_from index (s ∷ ss) (to ∷ places) ≡ moves_from (suc index) ss places
  moves-at at = ap (λ b. cond b (moves_from (suc index) ss places) (record { index = index; to = to } ∷ moves_from (suc index) ss places)) (eq-eqb s.place to at)

  pub moves-off : nat_eq s.place to ≡ false → moves_from index (s ∷ ss) (to ∷ places) ≡ record { index = index; to = to } ∷ moves_from (suc index) ss places
  moves-off off = ap (λ b. cond b (moves_from (suc index) ss places) (record { index = index; to = to } ∷ moves_from (suc index) ss places)) off

module _ (s : Spot) (ss : List Spot) (to : ℕ) (places : List ℕ) where
  pub misplaced-at : s.place ≡ to → misplaced (s ∷ ss) (to ∷ places) ≡ misplaced ss places
  misplaced-at at = ap (λ b. cond b (misplaced ss places) (s ∷ misplaced ss places)) (eq-eqb s.place to at)

  pub misplaced-off : nat_eq s.place to ≡ false → misplaced (s ∷ ss) (to ∷ places) ≡ s ∷ misplaced ss places
  misplaced-off off = ap (λ b. cond b (misplaced ss places) (s ∷ misplaced ss places)) off

-- as many moves as blocks that are misplaced
pub moves-count : (index : ℕ) (ss : List Spot) (places : List ℕ) → length (moves_from index ss places) ≡ length (misplaced ss places)
moves-count index [] places = refl
moves-count index (s ∷ ss) [] = refl
moves-count index (s ∷ ss) (to ∷ places) =
    either (eqb_tells s.place to)
    (λ at. ap length (moves-at index s ss to places at.1) ∙ moves-count (suc index) ss places ∙ sym (ap length (misplaced-at s ss to places at.1)))
    (λ off. ap length (moves-off index s ss to places off.0) ∙ ap suc (moves-count (suc index) ss places) ∙ sym (ap length (misplaced-off s ss to places off.0)))

pub none_misplaced_at : (ss : List Spot) (places : List ℕ) → places_of ss ≡ places → misplaced ss places ≡ []
none_misplaced_at [] places e = refl
none_misplaced_at (s ∷ ss) [] e = refl
none_misplaced_at (s ∷ ss) (to ∷ places) e =
    let at : s.place ≡ to = cc in let rest : places_of ss ≡ places = cc in misplaced-at s ss to places at ∙ none_misplaced_at ss places rest

-- no move is left where each block stands at its place
pub no_moves : (index : ℕ) (ss : List Spot) (places : List ℕ) → places_of ss ≡ places → moves_from index ss places ≡ []
no_moves index [] places e = refl
no_moves index (s ∷ ss) [] e = refl
no_moves index (s ∷ ss) (to ∷ places) e =
    let at : s.place ≡ to = cc in let rest : places_of ss ≡ places = cc in moves-at index s ss to places at ∙ no_moves (suc index) ss places rest

pub none_misplaced : (index end : ℕ) (ss : List Spot) → moves_from index ss (packed_from end ss) ≡ [] → places_of ss ≡ packed_from end ss
none_misplaced index end [] e = refl
none_misplaced index end (s ∷ ss) e =
    let to = next_multiple_of end s.align in let places = packed_from (to + s.size) ss in
    either (eqb_tells s.place to)
    (λ at. let here = at.1 in let rest = none_misplaced (suc index) (to + s.size) ss (sym (moves-at index s ss to places at.1) ∙ e) in cc)
    (λ off. let bad = sym (moves-off index s ss to places off.0) ∙ e in cc)

-- block k of a list
abbrev pub place_at : List Spot → ℕ → ℕ
place_at ss k = slice_index (places_of ss) k

abbrev pub size_at : List Spot → ℕ → ℕ
size_at ss k = slice_index (sizes_of ss) k

abbrev pub align_at : List Spot → ℕ → ℕ
align_at ss k = slice_index (map (λ s. s.align) ss) k

pub from_lower : (high low : ℕ) (ss : List Spot) → AreSpotsFrom high ss → low ≤ high → AreSpotsFrom low ss
from_lower high low [] are le = tt
from_lower high low (s ∷ ss) are le = (are.0, (let from = are.1 in omega arith), are.2)

-- a block goes down to the least multiple of its alignment behind the one before it, and keeps the order
pub goes_down : (from : ℕ) (s : Spot) (ss : List Spot) (to : ℕ) → AreSpotsFrom from (s ∷ ss) → to ≡ next_multiple_of from s.align
    → (to ≤ s.place) × AreSpotsFrom from (record s { place = to } ∷ ss)
goes_down from s ss to are is =
    let its = are.0 in let some = its.align.0 in let low = are.1 in let inside = its.inside in
    let le = least_multiple from s.align s.place some low its.place in let next = next_is from s.align some in let above = next.0 in
    (omega arith, (record { align = its.align; place = ap (λ n. n % s.align) is ∙ next.2; inside = omega arith }, omega arith, from_lower (s.place + s.size) (to + s.size) ss are.2 (omega arith)))

-- the first move: the block that it names, and what is left after it
pub record IsFirst (index end : ℕ) (ss : List Spot) (m : Move) (ms : List Move) : Type 0 where
  pub k : ℕ
  pub named : m.index ≡ index + k
  pub block : k < length ss
  pub before : take k (places_of ss) ≡ take k (packed_from end ss)
  pub elsewhere : place_at ss k ≡ slice_index (packed_from end ss) k → ⊥
  pub there : m.to ≡ slice_index (packed_from end ss) k
  pub rest : moves_from index (with_place ss k m.to) (packed_from end ss) ≡ ms
  pub front : places_of (take (suc k) (with_place ss k m.to)) ≡ packed_from end (take (suc k) ss)
  pub fewer : suc (length (misplaced (with_place ss k m.to) (packed_from end ss))) ≡ length (misplaced ss (packed_from end ss))
  pub less : words_of (misplaced (with_place ss k m.to) (packed_from end ss)) + size_at ss k ≡ words_of (misplaced ss (packed_from end ss))
  pub goes : m.to ≡ next_multiple_of (end_from end (take k ss)) (align_at ss k)
  pub down : AreSpotsFrom end ss → m.to < place_at ss k
  pub order : AreSpotsFrom end ss → AreSpotsFrom end (with_place ss k m.to)

-- the first block isn't at its place
module _ (index end : ℕ) (s : Spot) (ss : List Spot) (m : Move) (ms : List Move) where
  abbrev to : ℕ
  to = next_multiple_of end s.align

  abbrev places : List ℕ
  places = packed_from (to + s.size) ss

  abbrev there : Spot
  there = record s { place = m.to }

  at_first : nat_eq s.place to ≡ false → (s.place ≡ to → ⊥) → moves_from index (s ∷ ss) (to ∷ places) ≡ m ∷ ms → IsFirst index end (s ∷ ss) m ms
  at_first off isnt e =
      let both = sym (moves-off index s ss to places off) ∙ e in
      let its : to ≡ m.to = cc in let its_index : index ≡ m.index = cc in let others : moves_from (suc index) ss places ≡ ms = cc in
      let one_less : misplaced (there ∷ ss) (to ∷ places) ≡ misplaced ss places = misplaced-at there ss to places (sym its) in
      let one_more : misplaced (s ∷ ss) (to ∷ places) ≡ s ∷ misplaced ss places = misplaced-off s ss to places off in
      record {
        k = zero;
        named = omega arith;
        block = omega arith;
        before = refl;
        elsewhere = isnt;
        there = sym its;
        rest = moves-at index there ss to places (sym its) ∙ others;
        front = ap (λ p. p ∷ []) (sym its);
        fewer = ap (λ xs. suc (length xs)) one_less ∙ sym (ap length one_more);
        less =
            let a = ap words_of one_less in let b = ap words_of one_more in let c = sum_by-cons (λ (t : Spot). t.size) s (misplaced ss places) in omega arith;
        goes = sym its;
        down = λ are. let le = (goes_down end s ss m.to are (sym its)).0 in omega arith;
        order = λ are. (goes_down end s ss m.to are (sym its)).1;
      }

  later : s.place ≡ to → IsFirst (suc index) (to + s.size) ss m ms → IsFirst index end (s ∷ ss) m ms
  later at is =
      let after = with_place ss is.k m.to in
      let same_end : s.place + s.size ≡ to + s.size = ap (λ n. n + s.size) at in
      let was : misplaced (s ∷ ss) (to ∷ places) ≡ misplaced ss places = misplaced-at s ss to places at in
      let now : misplaced (s ∷ after) (to ∷ places) ≡ misplaced after places = misplaced-at s after to places at in
      record {
        k = suc is.k;
        named = let n = is.named in omega arith;
        block = let b = is.block in omega arith;
        before = let rest = is.before in cc;
        elsewhere = is.elsewhere;
        there = is.there;
        rest = moves-at index s after to places at ∙ is.rest;
        front = let rest = is.front in cc;
        fewer = ap (λ xs. suc (length xs)) now ∙ is.fewer ∙ sym (ap length was);
        less = ap (λ xs. words_of xs + size_at ss is.k) now ∙ is.less ∙ sym (ap words_of was);
        goes = is.goes ∙ ap (λ n. next_multiple_of (end_from (n + s.size) (take is.k ss)) (align_at ss is.k)) (sym at);
        down = λ are. is.down (subst (λ n. AreSpotsFrom n ss) same_end are.2);
        order = λ are. (are.0, are.1, subst (λ n. AreSpotsFrom n after) (sym same_end) (is.order (subst (λ n. AreSpotsFrom n ss) same_end are.2)));
      }

pub first_move : (index end : ℕ) (ss : List Spot) (m : Move) (ms : List Move) → moves_from index ss (packed_from end ss) ≡ m ∷ ms → IsFirst index end ss m ms
first_move index end [] m ms e = cc
first_move index end (s ∷ ss) m ms e =
    let to = next_multiple_of end s.align in let places = packed_from (to + s.size) ss in
    either (eqb_tells s.place to)
    (λ at. later index end s ss m ms at.1 (first_move (suc index) (to + s.size) ss m ms (sym (moves-at index s ss to places at.1) ∙ e)))
    (λ off. at_first index end s ss m ms off.0 off.1 e)
