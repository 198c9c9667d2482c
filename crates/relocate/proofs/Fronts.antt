-- The first blocks are at their packed places: the moves that are left are those of the others.
use Rattle.std.proofs.Common.{◌≡◌, ℕ, zero, suc, ◌+◌, ◌-◌, ◌<◌, ◌≤◌, List, [], ◌∷◌, map, length, take, drop, get_or, None, Some, refl, sym, ◌∙◌, ap, subst, arith}
use Rattle.std.proofs.lemmas.List.{drop_all, drop_more, get_or-map, length-map}
use Rattle.std.proofs.lemmas.Bool.{ne_eqb}
use Rattle.std.specs.Int.{next_multiple_of}
use Rattle.relocate.specs.declared.packing.Spot.{Spot}
use Rattle.relocate.specs.declared.packing.Move.{Move}
use Rattle.relocate.specs.Places.{end_of}
use Rattle.relocate.specs.Spots.{AreSpots, AreSpotsFrom, IsSpot, range_of}
use Rattle.relocate.specs.Ends.{end_from}
use Rattle.relocate.specs.Packing.{IsPacked, first_of, moves_from, next_move_of, packed_from, packing_moves, places_of}
use Rattle.relocate.proofs.PackingLemmas.{moves-at, moves-off}
use Rattle.relocate.proofs.CompactionLemmas.{RisesFrom, indices_rise}

-- the blocks behind the first ones, so many
pub record AreLeft (index from : ℕ) (k : ℕ) (ss : List Spot) : Type 0 where
  pub order : AreSpotsFrom (end_from from (take k ss)) (drop k ss)
  pub moves : moves_from index ss (packed_from from ss) ≡ moves_from (index + k) (drop k ss) (packed_from (end_from from (take k ss)) (drop k ss))

pub behind_packed : (k index from : ℕ) (ss : List Spot) → AreSpotsFrom from ss → places_of (take k ss) ≡ packed_from from (take k ss) → AreLeft index from k ss
behind_packed zero index from ss are packed = record {
  order = are;
  moves = ap (λ n. moves_from n ss (packed_from from ss)) (let e : index ≡ index + 0 = omega arith in e);
}
behind_packed (suc k) index from [] are packed = record { order = tt; moves = refl }
behind_packed (suc k) index from (s ∷ ss) are packed =
    let to = next_multiple_of from s.align in
    let at : s.place ≡ to = cc in
    let rest : places_of (take k ss) ≡ packed_from (to + s.size) (take k ss) = cc in
    let same : to + s.size ≡ s.place + s.size = ap (λ n. n + s.size) (sym at) in
    let left = behind_packed k (suc index) (s.place + s.size) ss are.2 (subst (λ n. places_of (take k ss) ≡ packed_from n (take k ss)) same rest) in
    record {
      order = left.order;
      moves = moves-at index s ss to (packed_from (to + s.size) ss) at
          ∙ ap (λ n. moves_from (suc index) ss (packed_from n ss)) same
          ∙ left.moves
          ∙ ap (λ n. moves_from n (drop k ss) (packed_from (end_from (s.place + s.size) (take k ss)) (drop k ss))) (let e : suc index + k ≡ index + suc k = omega arith in e);
    }

pub are_left : (k : ℕ) (ss : List Spot) (end : ℕ) (others : List Spot) → AreSpots ss → IsPacked (take k ss) → end ≡ end_from 0 (take k ss) → drop k ss ≡ others
    → AreSpotsFrom end others × (packing_moves ss ≡ moves_from k others (packed_from end others))
are_left k ss end others are packed at same =
    let left = behind_packed k 0 0 ss are packed in (
      subst (λ n. AreSpotsFrom n others) (sym at) (subst (λ xs. AreSpotsFrom (end_from 0 (take k ss)) xs) same left.order),
      left.moves
          ∙ ap (λ n. moves_from n (drop k ss) (packed_from (end_from 0 (take k ss)) (drop k ss))) (let e : 0 + k ≡ k = omega arith in e)
          ∙ ap (λ n. moves_from k (drop k ss) (packed_from n (drop k ss))) (sym at)
          ∙ ap (λ xs. moves_from k xs (packed_from end xs)) same,
    )

-- ---- one of the others, which is block k

pub others_are : {B : Type 0} (stands : B → Spot) (bs : List B) (k : ℕ) (b : B) (s : Spot) → k < length bs → b ≡ get_or bs k b → s ≡ stands b
    → map stands (drop k bs) ≡ s ∷ map stands (drop (k + 1) bs)
others_are stands bs k b s lt at is =
    ap (map stands) (drop_more bs k b lt ∙ ap (λ x. x ∷ drop (k + 1) bs) (sym at)) ∙ ap (λ (t : Spot). t ∷ map stands (drop (k + 1) bs)) (sym is)

pub no_others : {B : Type 0} (stands : B → Spot) (bs : List B) (k : ℕ) (places : List ℕ) (moves : List Move) → length bs ≤ k
    → moves ≡ moves_from k (map stands (drop k bs)) places → None ≡ first_of moves
no_others stands bs k places moves past left = sym (ap first_of (left ∙ ap (λ xs. moves_from k (map stands xs) places) (drop_all k bs past)))

-- where it stands, and what is left behind it
module _ (k end : ℕ) (s : Spot) (others rest : List Spot) (moves : List Move) (are : others ≡ s ∷ rest) where
  pub stands_behind : AreSpotsFrom end others → IsSpot s × (end ≤ s.place)
  stands_behind order = let its = subst (AreSpotsFrom end) are order in (its.0, its.1)

  pub stays : (to : ℕ) → AreSpotsFrom end others → moves ≡ moves_from k others (packed_from end others) → to ≡ next_multiple_of end s.align → s.place ≡ to
      → AreSpotsFrom (to + s.size) rest × (moves ≡ moves_from (k + 1) rest (packed_from (to + s.size) rest))
  stays to order left is at = (
    subst (λ n. AreSpotsFrom (n + s.size) rest) at (subst (AreSpotsFrom end) are order).2,
    left
        ∙ ap (λ xs. moves_from k xs (packed_from end xs)) are
        ∙ moves-at k s rest (next_multiple_of end s.align) (packed_from (next_multiple_of end s.align + s.size) rest) (at ∙ is)
        ∙ ap (λ n. moves_from (suc k) rest (packed_from (n + s.size) rest)) (sym is)
        ∙ ap (λ n. moves_from n rest (packed_from (to + s.size) rest)) (let e : suc k ≡ k + 1 = omega arith in e),
  )

  pub goes : (to : ℕ) → moves ≡ moves_from k others (packed_from end others) → to ≡ next_multiple_of end s.align → (s.place ≡ to → ⊥)
      → Some (record { index = k; to = to }) ≡ first_of moves
  goes to left is off =
      let next = next_multiple_of end s.align in
      let elsewhere = ne_eqb s.place next (λ at. off (at ∙ sym is)) in
      sym
      (ap first_of (left ∙ ap (λ xs. moves_from k xs (packed_from end xs)) are ∙ moves-off k s rest next (packed_from (next + s.size) rest) elsewhere)
      ∙ ap (λ n. Some (record { index = k; to = n })) (sym is))

-- ---- the last of the first blocks

end_more : (k from : ℕ) (ss : List Spot) (d : Spot) → k < length ss → end_of (range_of (get_or ss k d)) ≡ end_from from (take (suc k) ss)
end_more k from [] d lt = absurd (omega arith)
end_more zero from (s ∷ ss) d lt = refl
end_more (suc k) from (s ∷ ss) d lt = end_more k (s.place + s.size) ss d (omega arith)

inside_at : (k from : ℕ) (ss : List Spot) (d : Spot) → AreSpotsFrom from ss → k < length ss → end_of (range_of (get_or ss k d)) ≤ 65536
inside_at k from [] d are lt = absurd (omega arith)
inside_at zero from (s ∷ ss) d are lt = are.0.inside
inside_at (suc k) from (s ∷ ss) d are lt = inside_at k (s.place + s.size) ss d are.2 (omega arith)

pub record IsLast (count : ℕ) (ss : List Spot) (s : Spot) : Type 0 where
  pub inside : s.place + s.size ≤ 65536
  pub end : s.place + s.size ≡ end_from 0 (take count ss)

pub last_of_first : {B : Type 0} (stands : B → Spot) (count : ℕ) (bs : List B) (b : B) (s : Spot) → AreSpots (map stands bs) → count ≤ length bs → (count ≡ 0 → ⊥)
    → b ≡ get_or bs (count - 1) b → s ≡ stands b → IsLast count (map stands bs) s
last_of_first stands count bs b s are le some at is =
    let k = count - 1 in
    let positive : 0 < count = omega arith in
    let long = length-map bs stands in
    let lt : k < length (map stands bs) = omega arith in
    let it : get_or (map stands bs) k s ≡ s = get_or-map stands bs k b s (omega arith) ∙ ap stands (sym at) ∙ sym is in
    record {
      inside = subst (λ t. end_of (range_of t) ≤ 65536) it (inside_at k 0 (map stands bs) s are lt);
      end = ap (λ t. end_of (range_of t)) (sym it) ∙ end_more k 0 (map stands bs) s lt ∙ ap (λ n. end_from 0 (take n (map stands bs))) (let e : suc k ≡ count = omega arith in e);
    }

-- ---- the next move is behind the first blocks

first_rises : (low : ℕ) (moves : List Move) (m : Move) → RisesFrom low (map (λ (n : Move). n.index) moves) → first_of moves ≡ Some m → low ≤ m.index
first_rises low [] m rises e = cc
first_rises low (n ∷ ns) m rises e = let same : n ≡ m = cc in subst (λ (x : Move). low ≤ x.index) same rises.0

pub next_behind : (k : ℕ) (ss : List Spot) (m : Move) → AreSpots ss → IsPacked (take k ss) → next_move_of ss ≡ Some m → k ≤ m.index
next_behind k ss m are packed e =
    let left = are_left k ss (end_from 0 (take k ss)) (drop k ss) are packed refl refl in
    first_rises k (moves_from k (drop k ss) (packed_from (end_from 0 (take k ss)) (drop k ss))) m
    (indices_rise k (drop k ss) (packed_from (end_from 0 (take k ss)) (drop k ss))) (ap first_of (sym left.1) ∙ e)
