-- The words of a rest one by one: what leaving, coming back and writing make of them.
use Rattle.std.proofs.Common.{◌≡◌, ℕ, zero, suc, ◌+◌, ◌-◌, ◌<◌, ◌≤◌, ◌⊎◌, Bool, true, false, List, [], ◌∷◌, ◌++◌, map, length, get_or, take, drop, replicate, inl, inr, refl, ap, sym, ◌∙◌, subst, arith, Option, Some, None}
use Rattle.std.proofs.lemmas.Bool.{cases_lt}
use Rattle.std.proofs.lemmas.List.{length-take-le, length-map, length-replicate, length-drop}
use Rattle.std.specs.Prelude.{ℤ, pos, is_some}
use Rattle.space_raw.specs.Slots.{filled, run_of, IsRun, IsAway, without, with_run}
use Rattle.space_raw.proofs.Slots.{run_long, with_long}
use Rattle.std.specs.List.{range_with_len}
use Rattle.space_heap.specs.Holes.{free_word, in_rest, IsSameBut, Rewrites}
use Rattle.relocate.proofs.RangeTests.{either}

abbrev Slots : Type 0
Slots = List (Option ℤ)

at_left : (xs ys : Slots) (k : ℕ) → k < length xs → free_word (xs ++ ys) k ≡ free_word xs k
at_left [] ys k lt = let l : k < 0 = lt in absurd (omega arith)
at_left (x ∷ xs) ys zero lt = refl
at_left (x ∷ xs) ys (suc k) lt = let l : suc k < suc (length xs) = lt in at_left xs ys k (omega arith)

at_right : (xs ys : Slots) (k j : ℕ) → k ≡ length xs + j → free_word (xs ++ ys) k ≡ free_word ys j
at_right [] ys k j e = let same : k ≡ 0 + j = e in ap (free_word ys) (omega arith)
at_right (x ∷ xs) ys zero j e = let long : zero ≡ suc (length xs) + j = e in absurd (omega arith)
at_right (x ∷ xs) ys (suc k) j e = let long : suc k ≡ suc (length xs) + j = e in at_right xs ys k j (omega arith)

at_take : (n k : ℕ) (xs : Slots) → k < n → free_word (take n xs) k ≡ free_word xs k
at_take zero k xs lt = absurd (omega arith)
at_take (suc n) k [] lt = refl
at_take (suc n) zero (x ∷ xs) lt = refl
at_take (suc n) (suc k) (x ∷ xs) lt = at_take n k xs (omega arith)

at_drop : (n k : ℕ) (xs : Slots) → free_word (drop n xs) k ≡ free_word xs (n + k)
at_drop zero k xs = ap (free_word xs) (omega arith)
at_drop (suc n) k [] = refl
at_drop (suc n) k (x ∷ xs) = at_drop n k xs ∙ moved
  where
    moved : free_word xs (n + k) ≡ free_word (x ∷ xs) (suc n + k)
    moved = ap (free_word (x ∷ xs)) {x = suc (n + k)} (omega arith)

at_none : (n k : ℕ) → free_word (replicate n None) k ≡ None
at_none zero k = refl
at_none (suc n) zero = refl
at_none (suc n) (suc k) = at_none n k

pub at_some : (ws : List ℤ) (k : ℕ) → k < length ws → in_rest (map Some ws) k ≡ true
at_some [] k lt = let l : k < 0 = lt in absurd (omega arith)
at_some (w ∷ ws) zero lt = refl
at_some (w ∷ ws) (suc k) lt = let l : suc k < suc (length ws) = lt in at_some ws k (omega arith)

-- a word that is there lies within
pub in_length : (xs : Slots) (k : ℕ) → in_rest xs k ≡ true → k < length xs
in_length [] k e = cc
in_length (x ∷ xs) zero e = omega arith
in_length (x ∷ xs) (suc k) e = let rest = in_length xs k e in omega arith

pub is_there : (xs : Slots) (k : ℕ) (w : ℤ) → free_word xs k ≡ Some w → in_rest xs k ≡ true
is_there xs k w e = ap is_some e

-- n words are replaced
module _ (cs mid : Slots) (p n : ℕ) (long : length mid ≡ n) (inside : p + n ≤ length cs) where
  abbrev replaced : Slots
  replaced = take p cs ++ (mid ++ drop (p + n) cs)

  front_long : length (take p cs) ≡ p
  front_long = length-take-le p cs (omega arith)

  pub outside : (k : ℕ) → (k < p) ⊎ (p + n ≤ k) → free_word replaced k ≡ free_word cs k
  outside k (inl lt) = let front = front_long in at_left (take p cs) (mid ++ drop (p + n) cs) k (omega arith) ∙ at_take p k cs lt
  outside k (inr le) =
      let front = front_long in let j = k - p in let i = j - n in
      at_right (take p cs) (mid ++ drop (p + n) cs) k j (omega arith) ∙ at_right mid (drop (p + n) cs) j i (omega arith) ∙ at_drop (p + n) i cs
      ∙ ap (free_word cs) (omega arith)

  pub within : (k j : ℕ) → k ≡ p + j → j < n → free_word replaced k ≡ free_word mid j
  within k j e lt = let front = front_long in at_right (take p cs) (mid ++ drop (p + n) cs) k j (omega arith) ∙ at_left mid (drop (p + n) cs) j (omega arith)

-- what a carved piece leaves
module _ (cs : Slots) (p n : ℕ) (inside : p + n ≤ length cs) where
  abbrev nothing : Option ℤ
  nothing = None

  none_long : length (replicate n nothing) ≡ n
  none_long = length-replicate n nothing

  pub carved_outside : IsSameBut cs p n (without cs p n)
  carved_outside = outside cs (replicate n None) p n none_long inside

  pub carved_within : (k : ℕ) → p ≤ k → k < p + n → in_rest (without cs p n) k ≡ false
  carved_within k low high = ap is_some (within cs (replicate n None) p n none_long inside k (k - p) (omega arith) (omega arith) ∙ at_none n (k - p))

-- what comes back or is written
module _ (cs : Slots) (p : ℕ) (ws : List ℤ) (inside : p + length ws ≤ length cs) where
  some_long : length (map Some ws) ≡ length ws
  some_long = length-map ws Some

  pub written_outside : IsSameBut cs p (length ws) (with_run cs p ws)
  written_outside = outside cs (map Some ws) p (length ws) some_long inside

  pub written_within : (k j : ℕ) → k ≡ p + j → j < length ws → free_word (with_run cs p ws) k ≡ free_word (map Some ws) j
  written_within = within cs (map Some ws) p (length ws) some_long inside

  pub written_there : (k : ℕ) → p ≤ k → k < p + length ws → in_rest (with_run cs p ws) k ≡ true
  written_there k low high = ap is_some (written_within k (k - p) (omega arith) (omega arith)) ∙ at_some ws (k - p) (omega arith)

  -- words that are there are written over
  pub rewritten : ((k : ℕ) → p ≤ k → k < p + length ws → in_rest cs k ≡ true) → Rewrites cs p (length ws) (with_run cs p ws)
  rewritten there = record {
    long = with_long cs p ws inside;
    there = λ k. either (cases_lt k p)
        (λ lt. ap is_some (written_outside k (inl lt)))
        (λ ge. either (cases_lt k (p + length ws))
        (λ lt. written_there k ge lt ∙ sym (there k ge lt))
        (λ past. ap is_some (written_outside k (inr past))));
    others = written_outside;
  }

-- words side by side that are there are a run
all_some : (xs : Slots) → ((k : ℕ) → k < length xs → in_rest xs k ≡ true) → xs ≡ map Some (filled xs)
all_some [] there = refl
all_some (None ∷ xs) there = let bad : false ≡ true = there 0 (omega arith) in cc
all_some (Some w ∷ xs) there = ap (λ (ys : Slots). Some w ∷ ys) (all_some xs (λ k lt. there (suc k) (omega arith)))

pub is_run : (cs : Slots) (p n : ℕ) → p + n ≤ length cs → ((k : ℕ) → p ≤ k → k < p + n → in_rest cs k ≡ true) → IsRun cs p n
is_run cs p n inside there =
    let cut = length-drop p cs in let taken = length-take-le n (drop p cs) (omega arith) in (
      all_some (take n (drop p cs)) (λ k lt. ap is_some (at_take n k (drop p cs) (omega arith) ∙ at_drop p k cs) ∙ there (p + k) (omega arith) (omega arith)),
      inside,
    )

-- a tag's words
two_words : (xs : Slots) (a b : ℤ) → free_word xs 0 ≡ Some a → free_word xs 1 ≡ Some b → filled (take 2 xs) ≡ a ∷ b ∷ []
two_words [] a b e f = cc
two_words (x ∷ []) a b e f = cc
two_words (x ∷ y ∷ xs) a b e f =
    subst (λ (z : Option ℤ). filled (z ∷ y ∷ []) ≡ a ∷ b ∷ []) (sym e) (subst (λ (z : Option ℤ). filled (Some a ∷ z ∷ []) ≡ a ∷ b ∷ []) (sym f) refl)

pub tag_words : (cs : Slots) (p : ℕ) (a b : ℤ) → free_word cs p ≡ Some a → free_word cs (p + 1) ≡ Some b → run_of cs p 2 ≡ a ∷ b ∷ []
tag_words cs p a b e f = two_words (drop p cs) a b (at_drop p 0 cs ∙ ap (free_word cs) (omega arith) ∙ e) (at_drop p 1 cs ∙ f)

pub tag_run : (cs : Slots) (p : ℕ) (a b : ℤ) → free_word cs p ≡ Some a → free_word cs (p + 1) ≡ Some b → IsRun cs p 2
tag_run cs p a b e f =
    let last = in_length cs (p + 1) (is_there cs (p + 1) b f) in
    is_run cs p 2 (omega arith) (λ k low high. either (cases_lt k (p + 1))
    (λ lt. let at : p ≡ k = omega arith in is_there cs k a (ap (free_word cs) (sym at) ∙ e))
    (λ ge. let at : p + 1 ≡ k = omega arith in is_there cs k b (ap (free_word cs) (sym at) ∙ f)))

pub run_there : (cs : Slots) (p n : ℕ) → IsRun cs p n → (k : ℕ) → p ≤ k → k < p + n → in_rest cs k ≡ true
run_there cs p n is k low high =
    let j = k - p in let long = run_long cs p n is in
    ap is_some (ap (free_word cs) {y = p + j} (omega arith) ∙ sym (at_drop p j cs) ∙ sym (at_take n j (drop p cs) (omega arith)) ∙ ap (λ (xs : Slots). free_word xs j) is.0)
    ∙ at_some (run_of cs p n) j (omega arith)

-- the two words of a run
pub run_words : (cs : Slots) (p : ℕ) → IsRun cs p 2 → (free_word cs p ≡ Some (get_or (run_of cs p 2) 0 (pos 0))) × (free_word cs (p + 1) ≡ Some (get_or (run_of cs p 2) 1 (pos 0)))
run_words cs p is =
    let long = run_long cs p 2 is in let start : p + 0 ≡ p = omega arith in (
      sym (ap (free_word cs) start) ∙ sym (at_drop p 0 cs) ∙ sym (at_take 2 0 (drop p cs) (omega arith)) ∙ ap (λ (xs : Slots). free_word xs 0) is.0 ∙ some_word (run_of cs p 2) 0 (omega arith),
      sym (at_drop p 1 cs) ∙ sym (at_take 2 1 (drop p cs) (omega arith)) ∙ ap (λ (xs : Slots). free_word xs 1) is.0 ∙ some_word (run_of cs p 2) 1 (omega arith),
    )
  where
    some_word : (ws : List ℤ) (k : ℕ) → k < length ws → free_word (map Some ws) k ≡ Some (get_or ws k (pos 0))
    some_word [] k lt = let l : k < 0 = lt in absurd (omega arith)
    some_word (w ∷ ws) zero lt = refl
    some_word (w ∷ ws) (suc k) lt = let l : suc k < suc (length ws) = lt in some_word ws k (omega arith)

-- a tag is written over
module _ (cs : Slots) (p : ℕ) (a b : ℤ) (there : IsRun cs p 2) where
  abbrev tagged : Slots
  tagged = with_run cs p (a ∷ b ∷ [])

  inside : p + 2 ≤ length cs
  inside = there.1

  pub tag_first : free_word tagged p ≡ Some a
  tag_first = written_within cs p (a ∷ b ∷ []) inside p 0 (omega arith) (omega arith)

  pub tag_second : free_word tagged (p + 1) ≡ Some b
  tag_second = written_within cs p (a ∷ b ∷ []) inside (p + 1) 1 (omega arith) (omega arith)

  pub tag_rewrites : Rewrites cs p 2 tagged
  tag_rewrites = rewritten cs p (a ∷ b ∷ []) inside (run_there cs p 2 there)

-- words of a piece are away
pub away_within : (cs : Slots) (p n : ℕ) → IsAway cs p n → (k : ℕ) → p ≤ k → k < p + n → in_rest cs k ≡ false
away_within cs p n away k low high =
    let j = k - p in ap is_some (ap (free_word cs) (omega arith) ∙ sym (at_drop p j cs) ∙ sym (at_take n j (drop p cs) (omega arith)) ∙ ap (λ (xs : Slots). free_word xs j) away ∙ at_none n j)

-- the marks of the words that are there
marks_from : (cs : Slots) (f : ℕ → Bool) (first : ℕ) → ((k : ℕ) → f (first + k) ≡ in_rest cs k) → map is_some cs ≡ map f (range_with_len first (length cs))
marks_from [] f first same = refl
marks_from (c ∷ cs) f first same =
    let head : is_some c ≡ f first = sym (same 0) ∙ ap f (omega arith) in
    let tail : map is_some cs ≡ map f (range_with_len (first + 1) (length cs)) = marks_from cs f (first + 1) (λ k. ap f (omega arith) ∙ same (suc k)) in cc

pub marks : (cs : Slots) → map is_some cs ≡ map (in_rest cs) (range_with_len 0 (length cs))
marks cs = marks_from cs (in_rest cs) 0 (λ k. ap (in_rest cs) (omega arith))
