-- Moves until there is none.
use Rattle.std.proofs.Common.{◌≡◌, ℕ, zero, suc, ◌+◌, ◌<◌, ◌≤◌, List, [], ◌∷◌, map, length, take, Option, Some, None, IfSome, IsNone, ◌↔◌, true, false, refl, sym, ◌∙◌, ap, subst, arith}
use Rattle.std.specs.Prelude.{slice_index, sum_by}
use Rattle.std.proofs.lemmas.List.Sums.{sum_by-cons}
use Rattle.std.specs.Int.{next_multiple_of}
use Rattle.std.specs.List.Sorted.{IsStrictlyIncreasing}
use Rattle.std.proofs.lemmas.Bool.Decides.{eqb_tells}
use Rattle.relocate.proofs.RangeTests.{either}
use Rattle.relocate.specs.declared.packing.Spot.{Spot}
use Rattle.relocate.specs.declared.packing.Move.{Move}
use Rattle.relocate.specs.Spots.{AreSpots, AreSpotsFrom}
use Rattle.relocate.specs.Ends.{end_from}
use Rattle.relocate.specs.Packing.{packed_from, packed_places, places_of, IsNextMove, IsPacked, misplaced, moves_from, packing_moves, first_of, next_move_of, with_place, after_move, at_places, packed_spots, unpacked_count, unpacked_words}
use Rattle.relocate.specs.Compaction.{IsMoveDown, IsCompaction, PacksOnce}
use Rattle.relocate.proofs.PackingLemmas.{words_of, place_at, size_at, packed_from-with_place, moves-at, moves-off, moves-count, no_moves, none_misplaced, none_misplaced_at, sizes-with_place, IsFirst, align_at, first_move}

-- the next move is the first of those that are left
abbrev Behind : List Move → Move → Type 0
Behind moves m = (ms : List Move) × (moves ≡ m ∷ ms)

first_is : (moves : List Move) (m : Move) → first_of moves ≡ Some m → Behind moves m
first_is [] m e = cc
first_is (n ∷ ms) m e = (ms, (let same : n ≡ m = cc in ap (λ x. x ∷ ms) same))

first_is_none : (moves : List Move) → first_of moves ≡ None → moves ≡ []
first_is_none [] e = refl
first_is_none (m ∷ ms) e = cc

pub packed_where_none : (spots : List Spot) → next_move_of spots ≡ None → IsPacked spots
packed_where_none spots e = none_misplaced 0 0 spots (first_is_none (packing_moves spots) e)

pub none_where_packed : (spots : List Spot) → IsPacked spots → next_move_of spots ≡ None
none_where_packed spots e = ap first_of (no_moves 0 spots (packed_places spots) e)

take_packed_from : (end : ℕ) (ss : List Spot) (k to n : ℕ) → packed_from end (take n (with_place ss k to)) ≡ packed_from end (take n ss)
take_packed_from end [] k to n = refl
take_packed_from end (s ∷ ss) k to zero = refl
take_packed_from end (s ∷ ss) zero to (suc n) = refl
take_packed_from end (s ∷ ss) (suc k) to (suc n) = ap (λ places. next_multiple_of end s.align ∷ places) (take_packed_from (next_multiple_of end s.align + s.size) ss k to n)

module _ (spots : List Spot) (m : Move) (ms : List Move) (e : packing_moves spots ≡ m ∷ ms) where
  is : IsFirst 0 0 spots m ms
  is = first_move 0 0 spots m ms e

  its : is.k ≡ m.index
  its = let n = is.named in omega arith

  same_places : packed_places (after_move spots m) ≡ packed_places spots
  same_places = packed_from-with_place 0 spots m.index m.to

  pub moves_left : packing_moves (after_move spots m) ≡ ms
  moves_left = ap (moves_from 0 (after_move spots m)) same_places ∙ subst (λ k. moves_from 0 (with_place spots k m.to) (packed_places spots) ≡ ms) its is.rest

  pub words_less : unpacked_words (after_move spots m) + size_at spots m.index ≡ unpacked_words spots
  words_less =
      ap (λ places. words_of (misplaced (after_move spots m) places) + size_at spots m.index) same_places
      ∙ subst (λ k. words_of (misplaced (with_place spots k m.to) (packed_places spots)) + size_at spots k ≡ unpacked_words spots) its is.less

  pub moved_down : AreSpots spots → IsMoveDown spots m
  moved_down are = record {
    block = let b = is.block in let n = its in omega arith;
    down = subst (λ k. m.to < place_at spots k) its (is.down are);
    order = subst (λ k. AreSpotsFrom 0 (with_place spots k m.to)) its (is.order are);
    front =
        let front =
        subst (λ k. places_of (take (suc k) (with_place spots k m.to)) ≡ packed_from 0 (take (suc k) spots)) its is.front
        ∙ sym (take_packed_from 0 spots m.index m.to (suc m.index)) in
        subst (λ n. IsPacked (take n (after_move spots m))) (let e : suc m.index ≡ m.index + 1 = omega arith in e) front;
    count =
        let count =
        ap (λ places. suc (length (misplaced (after_move spots m) places))) same_places
        ∙ subst (λ k. suc (length (misplaced (with_place spots k m.to) (packed_places spots))) ≡ unpacked_count spots) its is.fewer in
        omega arith;
    words = words_less;
  }

  pub first_unpacked : IsNextMove spots m
  first_unpacked = record {
    block = let b = is.block in let n = its in omega arith;
    before = subst (λ k. take k (places_of spots) ≡ take k (packed_places spots)) its is.before;
    elsewhere = subst (λ k. slice_index (places_of spots) k ≡ slice_index (packed_places spots) k → ⊥) its is.elsewhere;
    there = subst (λ k. m.to ≡ slice_index (packed_places spots) k) its is.there;
  }

-- it is the first block that isn't at its packed place
pub next_is_first : (spots : List Spot) (m : Move) → next_move_of spots ≡ Some m → IsNextMove spots m
next_is_first spots m e = let b = first_is (packing_moves spots) m e in first_unpacked spots m b.0 b.1

-- what a search answers
pub first_if_any : (spots : List Spot) (o : Option Move) → o ≡ next_move_of spots → IfSome o (IsNextMove spots)
first_if_any spots None e = tt
first_if_any spots (Some m) e = next_is_first spots m (sym e)

pub packed_iff_none : (spots : List Spot) (o : Option Move) → o ≡ next_move_of spots → IsNone o ↔ IsPacked spots
packed_iff_none spots None e = ((λ none. packed_where_none spots (sym e)), (λ packed. refl))
packed_iff_none spots (Some m) e = ((λ (none : true ≡ false). cc), (λ packed. let bad = e ∙ none_where_packed spots packed in cc))

pub next_move_down : (spots : List Spot) (m : Move) → AreSpots spots → next_move_of spots ≡ Some m → IsMoveDown spots m
next_move_down spots m are e = let b = first_is (packing_moves spots) m e in moved_down spots m b.0 b.1 are

-- where it goes
pub next_goes : (spots : List Spot) (m : Move) → next_move_of spots ≡ Some m → m.to ≡ next_multiple_of (end_from 0 (take m.index spots)) (align_at spots m.index)
next_goes spots m e =
    let b = first_is (packing_moves spots) m e in
    subst (λ k. m.to ≡ next_multiple_of (end_from 0 (take k spots)) (align_at spots k)) (its spots m b.0 b.1) (is spots m b.0 b.1).goes

made : (moves : List Move) (spots : List Spot) → packing_moves spots ≡ moves → (after : List Spot) × IsCompaction spots moves after
made [] spots e = (spots, (ap first_of e, refl))
made (m ∷ ms) spots e = let rest = made ms (after_move spots m) (moves_left spots m ms e) in (rest.0, (ap first_of e, rest.1))

pub comes_to_an_end : (spots : List Spot) → (after : List Spot) × IsCompaction spots (packing_moves spots) after
comes_to_an_end spots = made (packing_moves spots) spots refl

-- numbers that rise
abbrev pub RisesFrom : ℕ → List ℕ → Type 0
RisesFrom low [] = Unit {0}
RisesFrom low (x ∷ xs) = (low ≤ x) × RisesFrom (suc x) xs

rises_lower : (high low : ℕ) (xs : List ℕ) → RisesFrom high xs → low ≤ high → RisesFrom low xs
rises_lower high low [] r le = tt
rises_lower high low (x ∷ xs) r le = ((let from = r.0 in omega arith), r.1)

rises : (low : ℕ) (xs : List ℕ) → RisesFrom low xs → IsStrictlyIncreasing xs
rises low [] r k lt = absurd (omega arith)
rises low (x ∷ []) r k lt = absurd (omega arith)
rises low (x ∷ y ∷ ys) r zero lt = let from = r.1.0 in omega arith
rises low (x ∷ y ∷ ys) r (suc k) lt =
    let rest : k + 1 < length (y ∷ ys) → slice_index (y ∷ ys) k < slice_index (y ∷ ys) (k + 1) = rises (suc x) (y ∷ ys) r.1 k in
    subst (λ n. slice_index (y ∷ ys) k < slice_index (x ∷ y ∷ ys) n) (let e : suc (k + 1) ≡ suc k + 1 = omega arith in e) (rest (omega arith))

pub indices_rise : (index : ℕ) (ss : List Spot) (places : List ℕ) → RisesFrom index (map (λ (m : Move). m.index) (moves_from index ss places))
indices_rise index [] places = tt
indices_rise index (s ∷ ss) [] = tt
indices_rise index (s ∷ ss) (to ∷ places) =
    let rest = indices_rise (suc index) ss places in
    either (eqb_tells s.place to)
    (λ at. subst (λ (ms : List Move). RisesFrom index (map (λ (m : Move). m.index) ms)) (sym (moves-at index s ss to places at.1)) (rises_lower (suc index) index _ rest (omega arith)))
    (λ off. subst (λ (ms : List Move). RisesFrom index (map (λ (m : Move). m.index) ms)) (sym (moves-off index s ss to places off.0)) ((omega arith), rest))

at_places-with_place : (ss : List Spot) (k to : ℕ) (places : List ℕ) → at_places (with_place ss k to) places ≡ at_places ss places
at_places-with_place [] k to places = refl
at_places-with_place (s ∷ ss) zero to [] = refl
at_places-with_place (s ∷ ss) zero to (p ∷ ps) = refl
at_places-with_place (s ∷ ss) (suc k) to [] = refl
at_places-with_place (s ∷ ss) (suc k) to (p ∷ ps) = ap (λ ts. record s { place = p } ∷ ts) (at_places-with_place ss k to ps)

at_own_places : (ss : List Spot) → at_places ss (places_of ss) ≡ ss
at_own_places [] = refl
at_own_places (s ∷ ss) = ap (λ ts. s ∷ ts) (at_own_places ss)

-- what the moves are, and where they lead
record Leads (spots : List Spot) (moves : List Move) (after : List Spot) : Type 0 where
  all : packing_moves spots ≡ moves
  words : sum_by (λ (m : Move). size_at spots m.index) moves ≡ unpacked_words spots
  places : after ≡ packed_spots spots
  end : IsPacked after

leads : (moves : List Move) (spots after : List Spot) → IsCompaction spots moves after → Leads spots moves after
leads [] spots after c =
    let is = packed_where_none spots c.0 in
    record {
      all = first_is_none (packing_moves spots) c.0;
      words = sym (ap words_of (none_misplaced_at spots (packed_places spots) is));
      places = c.1 ∙ sym (at_own_places spots) ∙ ap (at_places spots) is;
      end = subst IsPacked (sym c.1) is;
    }
leads (m ∷ ms) spots after c =
    let b = first_is (packing_moves spots) m c.0 in
    let rest = leads ms (after_move spots m) after c.1 in
    record {
      all = b.1 ∙ ap (λ ns. m ∷ ns) (sym (moves_left spots m b.0 b.1) ∙ rest.all);
      words =
          let first = sum_by-cons (λ (n : Move). size_at spots n.index) m ms in
          let later = ap (λ sizes. sum_by (λ (n : Move). slice_index sizes n.index) ms) (sizes-with_place spots m.index m.to) in
          let left = rest.words in let less = words_less spots m b.0 b.1 in omega arith;
      places = rest.places ∙ ap (at_places (after_move spots m)) (same_places spots m b.0 b.1) ∙ at_places-with_place spots m.index m.to (packed_places spots);
      end = rest.end;
    }

pub packs_once : (spots : List Spot) (moves : List Move) (after : List Spot) → IsCompaction spots moves after → PacksOnce spots moves after
packs_once spots moves after c =
    let l = leads moves spots after c in
    record {
      each = sym l.all;
      count = ap length (sym l.all) ∙ moves-count 0 spots (packed_places spots);
      words = l.words;
      once = rises 0 (map (λ (m : Move). m.index) moves) (subst (λ (ms : List Move). RisesFrom 0 (map (λ (m : Move). m.index) ms)) l.all (indices_rise 0 spots (packed_places spots)));
      places = l.places;
      packed = l.end;
    }
