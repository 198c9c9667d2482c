-- The first hole in which an aligned block fits holds its least place; and the free range that ends at a place.
use Rattle.std.proofs.Common.{◌≡◌, ℕ, ◌+◌, ◌*◌, ◌/◌, ◌%◌, ◌-◌, ◌<◌, ◌≤◌, ◌⊎◌, Bool, true, false, List, [], ◌∷◌, ◌++◌, inl, inr, ap, sym, ◌∙◌, arith, Option, None, length}
use Rattle.std.specs.Prelude.{ℤ}
use Rattle.std.specs.Int.{next_multiple_of}
use Rattle.std.proofs.Math.Nat.{mod-le, mod-add-div}
use Rattle.std.proofs.lemmas.Nat.{mul-mod}
use Rattle.std.proofs.lemmas.Bool.{cases_lt}
use Rattle.relocate.specs.Places.{Range, covers, end_of, is_covered}
use Rattle.space_heap.specs.Holes.{in_rest, Chain, AreHoles, IsPlace, IsLeastPlace, HasNoPlace, IsFreeFrom, IsFromOn, first_place}
use Rattle.relocate.proofs.RangeTests.{either, one_true, left_true, right_true, when_not, or_false, is_in, in_range}
use Rattle.space_heap.proofs.Chains.{covered_append, words_from, around, none_below, none_above}
use Rattle.relocate.proofs.Multiples.{IsNext, next_least}

-- n words do not fit into h at a multiple of a
abbrev pub Misses : Range → ℕ → ℕ → Type 0
Misses h n a = (p : ℕ) × (IsNext h.place a p × (end_of h < p + n))

abbrev pub AllMiss : List Range → ℕ → ℕ → Type 0
AllMiss [] n a = Unit {0}
AllMiss (h ∷ hs) n a = Misses h n a × AllMiss hs n a

pub one_more_misses : (hs : List Range) (h : Range) (n a : ℕ) → AllMiss hs n a → Misses h n a → AllMiss (hs ++ h ∷ []) n a
one_more_misses [] h n a all misses = (misses, tt)
one_more_misses (x ∷ xs) h n a all misses = (all.0, one_more_misses xs h n a all.1 misses)

abbrev AreFree : List Range → ℕ → ℕ → Type 0
AreFree hs n q = (k : ℕ) → q ≤ k → k < q + n → is_covered hs k ≡ true

abbrev Within : Range → ℕ → ℕ → Type 0
Within h n q = (h.place ≤ q) × (q + n ≤ end_of h)

module _ (size high : ℕ) where
  -- free words side by side are in the first hole, or all in the others
  inside : (low : ℕ) (h : Range) (hs : List Range) (n q : ℕ) → Chain size low (h ∷ hs) high → 0 < n → AreFree (h ∷ hs) n q → Within h n q ⊎ ((end_of h < q) × AreFree hs n q)
  inside low h hs n q c some free =
      let first : q < q + n = omega arith in let start : q ≤ q = omega arith in
      either (one_true (covers h q) (is_covered hs q) (free q start first))
      (λ has. let at = is_in h q has in let from = at.0 in let to = at.1 in
      either (cases_lt (end_of h) (q + n))
      (λ over. let reach : q ≤ end_of h = omega arith in
      either (one_true (covers h (end_of h)) (is_covered hs (end_of h)) (free (end_of h) reach over))
      (λ bad. let end = (is_in h (end_of h) bad).1 in absurd (omega arith))
      (λ rest. let past : end_of h + 1 ≤ end_of h = words_from size (end_of h + 1) hs high c.2 (end_of h) rest in absurd (omega arith)))
      (λ fits. inl (from, fits)))
      (λ rest. let past : end_of h + 1 ≤ q = words_from size (end_of h + 1) hs high c.2 q rest in
      inr (omega arith, λ k from to. either (one_true (covers h k) (is_covered hs k) (free k from to)) (λ has. let last = (is_in h k has).1 in absurd (omega arith)) (λ others. others)))

  not_in : (h : Range) (n a q : ℕ) → Misses h n a → q % a ≡ 0 → Within h n q → ⊥
  not_in h n a q misses whole within =
      let p = misses.0 in let least : p ≤ q = next_least h.place a p q misses.1.0 within.0 whole in let over = misses.1.1 in let ends = within.1 in omega arith

  pub none_fits : (low : ℕ) (hs : List Range) (n a : ℕ) → Chain size low hs high → 0 < n → AllMiss hs n a → HasNoPlace (is_covered hs) n a
  none_fits low [] n a c some misses q place = let first : q < q + n = omega arith in let start : q ≤ q = omega arith in let bad : false ≡ true = place.1 q start first in cc
  none_fits low (h ∷ hs) n a c some misses q place =
      either (inside low h hs n q c some place.1)
      (λ within. not_in h n a q misses.0 place.0 within)
      (λ rest. none_fits (end_of h + 1) hs n a c.2 some misses.1 q (place.0, rest.1))

  abbrev Least : List Range → ℕ → ℕ → ℕ → Type 0
  Least hs n a p = IsPlace (is_covered hs) n a p × ((q : ℕ) → IsPlace (is_covered hs) n a q → p ≤ q)

  pub first_fits : (low : ℕ) (hs : List Range) (h : Range) (others : List Range) (n a p : ℕ) → Chain size low (hs ++ h ∷ others) high → 0 < n → AllMiss hs n a
      → IsNext h.place a p → p + n ≤ end_of h → Least (hs ++ h ∷ others) n a p
  first_fits low [] h others n a p c some misses next fits =
      let from = next.0 in (
        (next.2, λ k low high. left_true (covers h k) (is_covered others k) (in_range h k (omega arith) (omega arith))),
        λ q place. either (inside low h others n q c some place.1)
            (λ within. next_least h.place a p q next within.0 place.0)
            (λ rest. let past = rest.0 in omega arith),
      )
  first_fits low (x ∷ xs) h others n a p c some misses next fits =
      let hs = xs ++ h ∷ others in let rest = first_fits (end_of x + 1) xs h others n a p c.2 some misses.1 next fits in (
        (rest.0.0, λ k from to. right_true (covers x k) (is_covered hs k) (rest.0.1 k from to)),
        λ q place. either (inside low x hs n q c some place.1)
            (λ within. absurd (not_in x n a q misses.0 place.0 within))
            (λ others. rest.1 q (place.0, others.1)),
      )

-- what holds of one test of words holds of another that agrees with it
module _ (f g : ℕ → Bool) (same : (k : ℕ) → f k ≡ g k) (n a : ℕ) where
  place_too : (p : ℕ) → IsPlace f n a p → IsPlace g n a p
  place_too p place = (place.0, λ k from to. sym (same k) ∙ place.1 k from to)

pub no_place : (f g : ℕ → Bool) (n a : ℕ) → ((k : ℕ) → f k ≡ g k) → HasNoPlace g n a → HasNoPlace f n a
no_place f g n a same none q place = none q (place_too f g same n a q place)

pub least_place : (f g : ℕ → Bool) (n a p : ℕ) → ((k : ℕ) → f k ≡ g k) → IsPlace g n a p → ((q : ℕ) → IsPlace g n a q → p ≤ q) → IsLeastPlace f n a p
least_place f g n a p same place least = record {
  place = place_too g f (λ k. sym (same k)) n a p place;
  least = λ q its. least q (place_too f g same n a q its);
}

pub next_small : (x a : ℕ) → next_multiple_of x a ≤ x + a
next_small x a = let le = mod-le (a - x % a) a in omega arith

-- a multiple of an alignment is a multiple of the unit
pub unit_multiple : (p a : ℕ) → p % a ≡ 0 → a % 4 ≡ 0 → p % 4 ≡ 0
unit_multiple p a multiple unit =
    let is : p ≡ a * (p / a) = (let all = mod-add-div p a in omega arith) in
    ap (λ n. n % 4) is ∙ mul-mod a (p / a) 4 ∙ ap (λ r. (r * (p / a % 4)) % 4) unit ∙ ap (λ n. n % 4) (let none : 0 * (p / a % 4) ≡ 0 = omega arith in none)

-- no hole from `next` on begins before the place
pub chain_from : (size low : ℕ) (hs : List Range) (high place : ℕ) → Chain size low hs high → place ≤ high → IsFromOn place (first_place hs None) → Chain size place hs high
chain_from size low [] high place c le from = le
chain_from size low (h ∷ hs) high place c le from = (c.0, from, c.2)

module _ (words : List (Option ℤ)) (first : Option ℕ) (left right : List Range) (holes : AreHoles words first (left ++ right)) (place : ℕ) where
  -- no hole reaches the place, so nothing is free directly before it
  pub nothing_before : Chain (length words) 0 left place → Chain (length words) place right (length words + 1) → IsFreeFrom (in_rest words) place place
  nothing_before before after = record {
    low = omega arith;
    free = λ k from to. absurd (omega arith);
    first = λ k next. holes.all k ∙ covered_append left right k ∙ or_false (is_covered left k) (is_covered right k)
        (none_above (length words) 0 left place before k (omega arith))
        (none_below (length words) place right (length words + 1) after k (omega arith));
  }

-- the hole that ends at the place is the free range before it
pub hole_before : (words : List (Option ℤ)) (first : Option ℕ) (left : List Range) (h : Range) (right : List Range) → AreHoles words first (left ++ h ∷ right)
    → IsFreeFrom (in_rest words) (end_of h) h.place
hole_before words first left h right holes =
    let size = length words in let parts = around size 0 left h right (size + 1) holes.chain in record {
      low = omega arith;
      free = λ k from to. holes.all k ∙ covered_append left (h ∷ right) k
          ∙ right_true (is_covered left k) (is_covered (h ∷ right) k) (left_true (covers h k) (is_covered right k) (in_range h k from to));
      first = λ k next. holes.all k ∙ covered_append left (h ∷ right) k ∙ or_false (is_covered left k) (is_covered (h ∷ right) k)
          (none_above size 0 left h.place parts.0 k (omega arith))
          (or_false (covers h k) (is_covered right k)
          (when_not (covers h k) (λ has. let from = (is_in h k has).0 in omega arith))
          (none_below size (end_of h + 1) right (size + 1) parts.2 k (omega arith)));
    }
