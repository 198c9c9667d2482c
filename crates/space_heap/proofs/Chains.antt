-- Ranges in place order, none of which touches the next: what is known of each, and how they are taken apart and put together.
use Rattle.std.proofs.Common.{◌≡◌, ℕ, ◌+◌, ◌-◌, ◌%◌, ◌<◌, ◌≤◌, Bool, true, false, ◌||◌, cond, List, [], ◌∷◌, ◌++◌, refl, sym, arith}
use Rattle.std.proofs.lemmas.Bool.{cases_lt, lt-ltb, ltb-true}
use Rattle.std.specs.Prelude.{nat_lt}
use Rattle.relocate.specs.Places.{Range, covers, end_of, is_covered}
use Rattle.space_heap.specs.Maps.{IsBlock}
use Rattle.space_heap.specs.Holes.{Chain, between}
use Rattle.relocate.proofs.RangeTests.{either, one_true, when_not, is_in}

pub covered_append : (xs ys : List Range) (k : ℕ) → is_covered (xs ++ ys) k ≡ (is_covered xs k || is_covered ys k)
covered_append [] ys k = refl
covered_append (x ∷ xs) ys k = grouped (covers x k) (is_covered xs k) (is_covered ys k) (is_covered (xs ++ ys) k) (covered_append xs ys k)
  where
    grouped : (a b c d : Bool) → d ≡ (b || c) → (a || d) ≡ ((a || b) || c)
    grouped true b c d e = refl
    grouped false b c d e = e

pub or_false_right : (b : Bool) → (b || false) ≡ b
or_false_right true = refl
or_false_right false = refl

module _ (size : ℕ) where
  pub chain_low : (low : ℕ) (hs : List Range) (high : ℕ) → Chain size low hs high → low ≤ high
  chain_low low [] high c = c
  chain_low low (h ∷ hs) high c = let rest : end_of h + 1 ≤ high = chain_low (end_of h + 1) hs high c.2 in let le = c.1 in omega arith

  -- every word of them is from low on, and the word behind it lies before high
  pub words_from : (low : ℕ) (hs : List Range) (high : ℕ) → Chain size low hs high → (k : ℕ) → is_covered hs k ≡ true → low ≤ k
  words_from low [] high c k e = cc
  words_from low (h ∷ hs) high c k e =
      let le = c.1 in
      either (one_true (covers h k) (is_covered hs k) e)
      (λ has. let from = (is_in h k has).0 in omega arith)
      (λ rest. let past : end_of h + 1 ≤ k = words_from (end_of h + 1) hs high c.2 k rest in omega arith)

  pub words_to : (low : ℕ) (hs : List Range) (high : ℕ) → Chain size low hs high → (k : ℕ) → is_covered hs k ≡ true → k + 1 < high
  words_to low [] high c k e = cc
  words_to low (h ∷ hs) high c k e =
      let le : end_of h + 1 ≤ high = chain_low (end_of h + 1) hs high c.2 in
      either (one_true (covers h k) (is_covered hs k) e)
      (λ has. let to = (is_in h k has).1 in omega arith)
      (λ rest. words_to (end_of h + 1) hs high c.2 k rest)

  pub none_below : (low : ℕ) (hs : List Range) (high : ℕ) → Chain size low hs high → (k : ℕ) → k < low → is_covered hs k ≡ false
  none_below low hs high c k lt = when_not (is_covered hs k) (λ e. let from = words_from low hs high c k e in omega arith)

  pub none_above : (low : ℕ) (hs : List Range) (high : ℕ) → Chain size low hs high → (k : ℕ) → high ≤ k + 1 → is_covered hs k ≡ false
  none_above low hs high c k le = when_not (is_covered hs k) (λ e. let to = words_to low hs high c k e in omega arith)

  pub from_lower : (less low : ℕ) (hs : List Range) (high : ℕ) → less ≤ low → Chain size low hs high → Chain size less hs high
  from_lower less low [] high le c = omega arith
  from_lower less low (h ∷ hs) high le c = let from = c.1 in (c.0, omega arith, c.2)

  pub to_higher : (low : ℕ) (hs : List Range) (high more : ℕ) → high ≤ more → Chain size low hs high → Chain size low hs more
  to_higher low [] high more le c = omega arith
  to_higher low (h ∷ hs) high more le c = (c.0, c.1, to_higher (end_of h + 1) hs high more le c.2)

  pub chain_append : (low : ℕ) (xs : List Range) (mid : ℕ) (ys : List Range) (high : ℕ) → Chain size low xs mid → Chain size mid ys high → Chain size low (xs ++ ys) high
  chain_append low [] mid ys high c d = from_lower low mid ys high c d
  chain_append low (x ∷ xs) mid ys high c d = (c.0, c.1, chain_append (end_of x + 1) xs mid ys high c.2 d)

  pub chain_parts : (low : ℕ) (xs ys : List Range) (high : ℕ) → Chain size low (xs ++ ys) high → (mid : ℕ) × Chain size low xs mid × Chain size mid ys high
  chain_parts low [] ys high c = (low, omega arith, c)
  chain_parts low (x ∷ xs) ys high c = let rest = chain_parts (end_of x + 1) xs ys high c.2 in (rest.0, (c.0, c.1, rest.1), rest.2)

  -- the ranges before one of them, and those behind it
  pub around : (low : ℕ) (xs : List Range) (h : Range) (ys : List Range) (high : ℕ) → Chain size low (xs ++ h ∷ ys) high
      → Chain size low xs h.place × IsBlock size h × Chain size (end_of h + 1) ys high
  around low [] h ys high c = (c.1, c.0, c.2)
  around low (x ∷ xs) h ys high c = let rest = around (end_of x + 1) xs h ys high c.2 in ((c.0, c.1, rest.0), rest.1, rest.2)

  pub between_chain : (from to : ℕ) → from ≤ to → from % 4 ≡ 0 → to % 4 ≡ 0 → to ≤ size → Chain size from (between from to) (to + 1)
  between_chain from to le start end inside = by_test (nat_lt from to) refl
    where
      by_test : (b : Bool) → nat_lt from to ≡ b → Chain size from (cond b (record { place = from; size = to - from } ∷ []) []) (to + 1)
      by_test true e = let lt = ltb-true from to e in (record { some = omega arith; place = start; size = omega arith; inside = omega arith }, omega arith, omega arith)
      by_test false e = omega arith

pub none_between : (from to : ℕ) → to ≤ from → between from to ≡ []
none_between from to le = by_test (nat_lt from to) refl
  where
    by_test : (b : Bool) → nat_lt from to ≡ b → cond {A = List Range} b (record { place = from; size = to - from } ∷ []) [] ≡ []
    by_test true e = let lt = ltb-true from to e in absurd (omega arith)
    by_test false e = refl

pub between_covers : (from to k : ℕ) → from ≤ to → is_covered (between from to) k ≡ covers (record { place = from; size = to - from }) k
between_covers from to k le = by_test (nat_lt from to) refl
  where
    by_test : (b : Bool) → nat_lt from to ≡ b → is_covered (cond b (record { place = from; size = to - from } ∷ []) []) k ≡ covers (record { place = from; size = to - from }) k
    by_test true e = or_false_right (covers (record { place = from; size = to - from }) k)
    by_test false e = sym (when_not (covers (record { place = from; size = to - from }) k) (λ has. let both = is_in (record { place = from; size = to - from }) k has in let low = both.0 in let high = both.1 in
        either (cases_lt from to) (λ lt. let yes = lt-ltb from to lt in cc) (λ ge. omega arith)))
