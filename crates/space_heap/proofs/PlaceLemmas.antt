-- The least place among the blocks is the least place in the holes.
use Rattle.std.proofs.Common.{◌≡◌, ℕ, zero, suc, ◌+◌, ◌-◌, ◌*◌, ◌/◌, ◌%◌, ◌<◌, ◌≤◌, Bool, true, false, cond, ◌&&◌, ◌||◌, ◌⊎◌, not, List, [], ◌∷◌, ◌++◌, map, Option, Some, None, refl, ap, sym, ◌∙◌, subst, inl, inr, arith, MatchOption, max}
use Rattle.std.proofs.lemmas.Bool.{lt-leb, le-leb, leb-true, cases_lt}
use Rattle.std.proofs.Math.Nat.{mul-le-mul_right, mod-add-div, mul-mod_left}
use Rattle.std.specs.Prelude.{find, fold, nat_le, if◌then◌else◌}
use Rattle.std.specs.List.{list_any, range_with_len}
use Rattle.std.specs.Int.{next_multiple_of}
use Rattle.relocate.specs.Places.{Range, end_of, covers, is_covered, meets, is_free, least_place, free_from, lower_place}
use Rattle.space_heap.specs.Maps.{AreBlocks, IsBlock}
use Rattle.space_heap.specs.Holes.{IsLeastPlace as IsLeastInHoles, HasNoPlace as HasNoneInHoles, IsFreeFrom}
use Rattle.relocate.proofs.RangeTests.{either, clash, when_not, both_true, and_true, both_false, one_true, not_false, not_true, is_in, in_range, covered_between}
use Rattle.space_heap.proofs.MapLemmas.{Agree, uncovered, no_meeting, block_out}

module _ (test : ℕ → Bool) (align : ℕ) where
  -- the first of n multiples that passes
  record IsFirst (from p : ℕ) : Type 0 where
    pub k : ℕ
    pub from_on : from ≤ k
    pub is : p ≡ k * align
    pub passes : test p ≡ true
    pub first : (j : ℕ) → from ≤ j → j < k → test (j * align) ≡ false

  abbrev NonePasses : ℕ → ℕ → Type 0
  NonePasses from n = (j : ℕ) → from ≤ j → j < from + n → test (j * align) ≡ false

  abbrev FirstOrNone : ℕ → ℕ → Option ℕ → Type 0
  FirstOrNone from n o = MatchOption o (NonePasses from n) (λ p. IsFirst from p)

  fails_at : (from j : ℕ) → test (from * align) ≡ false → (from ≡ j) → test (j * align) ≡ false
  fails_at from j h e = subst (λ m. test (m * align) ≡ false) e h

  fails_from : (from j : ℕ) → test (from * align) ≡ false → (from + 1 ≤ j → test (j * align) ≡ false) → from ≤ j → test (j * align) ≡ false
  fails_from from j h later le =
      let cases : (from ≡ j) ⊎ (from + 1 ≤ j) = grind arith in
      elim cases [ inl e ↦ fails_at from j h e | inr more ↦ later more ]

  skipped : (from n : ℕ) (o : Option ℕ) → test (from * align) ≡ false → FirstOrNone (from + 1) n o → FirstOrNone from (suc n) o
  skipped from n None h none = λ j le lt. fails_from from j h (λ more. none j more (omega arith)) le
  skipped from n (Some p) h is = record {
    k = is.k;
    from_on = let le : from + 1 ≤ is.k = is.from_on in omega arith;
    is = is.is;
    passes = is.passes;
    first = λ j le lt. fails_from from j h (λ more. is.first j more lt) le;
  }

  found : (from n : ℕ) (b : Bool) → test (from * align) ≡ b → (o : Option ℕ) → FirstOrNone (from + 1) n o → FirstOrNone from (suc n) (cond b (Some (from * align)) o)
  found from n true h o later = record { k = from; from_on = omega arith; is = refl; passes = h; first = λ j le lt. absurd (omega arith) }
  found from n false h o later = skipped from n o h later

  first_or_none : (from n : ℕ) → FirstOrNone from n (find test (map (λ k. k * align) (range_with_len from n)))
  first_or_none from zero = λ j le lt. absurd (omega arith)
  first_or_none from (suc n) =
      found from n (test (from * align)) refl (find test (map (λ k. k * align) (range_with_len (from + 1) n))) (first_or_none (from + 1) n)

module _ (words : ℕ) (taken : List Range) (size align : ℕ) where
  abbrev pub free_at : ℕ → Bool
  free_at place = is_free words taken (record { place = place; size = size })

  -- a multiple of the alignment at which the range is free, and none below it
  pub record IsLeast (place : ℕ) : Type 0 where
    pub k : ℕ
    pub multiple : place ≡ k * align
    pub free : free_at place ≡ true
    pub least : (j : ℕ) → j * align < place → free_at (j * align) ≡ false

  abbrev pub HasNone : Type 0
  HasNone = (k : ℕ) → free_at (k * align) ≡ false

  past_end : (k : ℕ) → 0 < size → 0 < align → words / align + 1 ≤ k → free_at (k * align) ≡ false
  past_end k some aligned beyond =
      let lt : words < k * align + size = omega (arith, mul-le-mul_right align beyond) in
      ap (λ b. b && not (list_any (meets (record { place = k * align; size = size })) taken)) (lt-leb (k * align + size) words lt)

  none_free : (k : ℕ) → 0 < size → 0 < align → NonePasses free_at align 0 (words / align + 1) → free_at (k * align) ≡ false
  none_free k some aligned none =
      let cases : (k < 0 + (words / align + 1)) ⊎ (words / align + 1 ≤ k) = grind arith in
      elim cases [ inl below ↦ none k (omega arith) below | inr beyond ↦ past_end k some aligned beyond ]

  lower_is_before : (k j : ℕ) → k * align < j * align → k < j
  lower_is_before k j lt =
      let cases : (k < j) ⊎ (j ≤ k) = grind arith in
      elim cases [ inl less ↦ less | inr not_less ↦ absurd (omega (arith, mul-le-mul_right align not_less)) ]

  least_from : (o : Option ℕ) → 0 < size → 0 < align → FirstOrNone free_at align 0 (words / align + 1) o → MatchOption o HasNone IsLeast
  least_from None some aligned none = λ k. none_free k some aligned none
  least_from (Some p) some aligned is = record {
    k = is.k;
    multiple = is.is;
    free = is.passes;
    least = λ k lt. is.first k (omega arith) (lower_is_before k is.k (subst (λ q. k * align < q) is.is lt));
  }

  place_is_least : 0 < size → 0 < align → MatchOption (least_place words taken size align) HasNone IsLeast
  place_is_least some aligned =
      least_from (least_place words taken size align) some aligned (first_or_none free_at align 0 (words / align + 1))

  -- two least places are one
  same_place : (p q : ℕ) → IsLeast p → IsLeast q → p ≡ q
  same_place p q a b =
      either (cases_lt p q)
      (λ lt. clash (free_at p) a.free (subst (λ r. free_at r ≡ false) (sym a.multiple) (b.least a.k (subst (λ r. r < q) a.multiple lt))))
      (λ ge. either (cases_lt q p)
      (λ lt. clash (free_at q) b.free (subst (λ r. free_at r ≡ false) (sym b.multiple) (a.least b.k (subst (λ r. r < p) b.multiple lt))))
      (λ le. omega arith))

  is_found : (o : Option ℕ) (p : ℕ) → MatchOption o HasNone IsLeast → IsLeast p → Some p ≡ o
  is_found None p none least = clash (free_at p) least.free (subst (λ r. free_at r ≡ false) (sym least.multiple) (none least.k))
  is_found (Some q) p is least = ap (λ r. Some r) (same_place p q least is)

  is_nowhere : (o : Option ℕ) → MatchOption o HasNone IsLeast → HasNone → None ≡ o
  is_nowhere None none all = refl
  is_nowhere (Some q) is all = clash (free_at q) is.free (subst (λ r. free_at r ≡ false) (sym is.multiple) (all is.k))

  module _ (free : ℕ → Bool) (inside : (k : ℕ) → free k ≡ true → k < words) (blocks : AreBlocks words taken) (same : Agree words free taken) (some : 0 < size) (aligned : 0 < align) where
    abbrev at : ℕ → Range
    at q = record { place = q; size = size }

    free_words : (q : ℕ) → free_at q ≡ true → (k : ℕ) → q ≤ k → k < q + size → free k ≡ true
    free_words q free k from to =
        let both = both_true (nat_le (end_of (at q)) words) (not (list_any (meets (at q)) taken)) free in
        let inside : q + size ≤ words = leb-true (q + size) words both.0 in let lt : k < words = omega arith in
        same k lt ∙ ap not (uncovered (at q) taken (not_false (list_any (meets (at q)) taken) both.1) k (in_range (at q) k from to))

    words_free : (q : ℕ) → ((k : ℕ) → q ≤ k → k < q + size → free k ≡ true) → free_at q ≡ true
    words_free q free =
        let within : (k : ℕ) → q ≤ k → k < q + size → k < words = (λ k from to. inside k (free k from to)) in
        let last = q + size - 1 in let end : last < words = within last (omega arith) (omega arith) in let inside : q + size ≤ words = omega arith in
        let none : list_any (meets (at q)) taken ≡ false =
        no_meeting words (at q) taken some blocks (λ k has. let both = is_in (at q) k has in not_false (is_covered taken k) (sym (same k (within k both.0 both.1)) ∙ free k both.0 both.1)) in
        and_true (nat_le (end_of (at q)) words) (not (list_any (meets (at q)) taken)) (le-leb (q + size) words inside) (ap not none)

    times : (p : ℕ) → p % align ≡ 0 → p ≡ p / align * align
    times p multiple = let all = mod-add-div p align in omega arith

    multiple_of : (k : ℕ) → k * align % align ≡ 0
    multiple_of k = mul-mod_left k align

    -- the least place in the holes is the one among the blocks
    pub is_least_place : (p : ℕ) → IsLeastInHoles free size align p → Some p ≡ least_place words taken size align
    is_least_place p is =
        is_found (least_place words taken size align) p (place_is_least some aligned) (record {
          k = p / align;
          multiple = times p is.place.0;
          free = words_free p is.place.1;
          least = λ j lt. when_not (free_at (j * align)) (λ free. let le : p ≤ j * align = is.least (j * align) (multiple_of j, free_words (j * align) free) in omega arith);
        })

    pub is_no_place : HasNoneInHoles free size align → None ≡ least_place words taken size align
    is_no_place none =
        is_nowhere (least_place words taken size align) (place_is_least some aligned) (λ k. when_not (free_at (k * align)) (λ free. none (k * align) (multiple_of k, free_words (k * align) free)))

-- where the free range before a place begins
abbrev further : ℕ → ℕ → Range → ℕ
further place start r = if nat_le (end_of r) place then max start (end_of r) else start

reaches : (place start : ℕ) (r : Range) → end_of r ≤ place → further place start r ≡ max start (end_of r)
reaches place start r le = ap (λ b. cond b (max start (end_of r)) start) (le-leb (end_of r) place le)

stays : (place start : ℕ) (r : Range) → place < end_of r → further place start r ≡ start
stays place start r lt = ap (λ b. cond b (max start (end_of r)) start) (lt-leb (end_of r) place lt)

not_back : (place start : ℕ) (r : Range) → start ≤ further place start r
not_back place start r =
    either (cases_lt place (end_of r)) (λ lt. let e = stays place start r lt in omega arith) (λ le. let e = reaches place start r le in omega arith)

abbrev from : ℕ → ℕ → List Range → ℕ
from place start taken = fold (further place) start taken

grows : (place start : ℕ) (taken : List Range) → start ≤ from place start taken
grows place start [] = omega arith
grows place start (r ∷ rs) = let step = not_back place start r in let rest = grows place (further place start r) rs in omega arith

-- no block reaches beyond s where the words from s to the place are free
not_beyond : (words place s start : ℕ) (taken : List Range) → AreBlocks words taken → start ≤ s → ((k : ℕ) → s ≤ k → k < place → is_covered taken k ≡ false) → from place start taken ≤ s
not_beyond words place s start [] blocks le free = le
not_beyond words place s start (r ∷ rs) blocks le free =
    let rest : (k : ℕ) → s ≤ k → k < place → is_covered rs k ≡ false = (λ k low to. (both_false (covers r k) (is_covered rs k) (free k low to)).1) in
    let more = blocks.0.some in
    either (cases_lt place (end_of r))
    (λ lt. let e = stays place start r lt in not_beyond words place s (further place start r) rs blocks.2 (omega arith) rest)
    (λ reach. either (cases_lt s (end_of r))
    (λ over. let k = end_of r - 1 in let low : s ≤ k = omega arith in let to : k < place = omega arith in
    clash (covers r k) (in_range r k (omega arith) (omega arith)) (both_false (covers r k) (is_covered rs k) (free k low to)).0)
    (λ within. let e = reaches place start r reach in not_beyond words place s (further place start r) rs blocks.2 (omega arith) rest))

-- a block that covers the word before s, and not s, ends there
reaches_to : (place k start : ℕ) (taken : List Range) → is_covered taken k ≡ true → is_covered taken (k + 1) ≡ false → k + 1 ≤ place → k + 1 ≤ from place start taken
reaches_to place k start [] has hasnt le = cc
reaches_to place k start (r ∷ rs) has hasnt le =
    let both = both_false (covers r (k + 1)) (is_covered rs (k + 1)) hasnt in
    either (one_true (covers r k) (is_covered rs k) has)
    (λ here. let is = is_in r k here in let low = is.0 in let to = is.1 in
    let end : end_of r ≤ k + 1 = either (cases_lt (k + 1) (end_of r)) (λ lt. clash (covers r (k + 1)) (in_range r (k + 1) (omega arith) lt) both.0) (λ ge. ge) in
    let e = reaches place start r (omega arith) in let rest = grows place (further place start r) rs in omega arith)
    (λ there. reaches_to place k (further place start r) rs there both.1 le)

module _ (words : ℕ) (before after : List Range) (r : Range) (free : ℕ → Bool) (start : ℕ)
    (blocks : AreBlocks words (before ++ r ∷ after)) (same : Agree words free (before ++ r ∷ after)) (is : IsFreeFrom free r.place start) where
  abbrev others : List Range
  others = before ++ after

  its : IsBlock words r × (list_any (meets r) (before ++ after) ≡ false) × AreBlocks words (before ++ after)
  its = block_out words before r after blocks

  split : (k : ℕ) → is_covered (before ++ r ∷ after) k ≡ (covers r k || is_covered others k)
  split k = covered_between before r after k

  in_space : (k : ℕ) → k < r.place → k < words
  in_space k lt = let inside = its.0.inside in omega arith

  free_before : (k : ℕ) → start ≤ k → k < r.place → is_covered others k ≡ false
  free_before k low lt =
      (both_false (covers r k) (is_covered others k) (sym (split k) ∙ not_false (is_covered (before ++ r ∷ after) k) (sym (same k (in_space k lt)) ∙ is.free k low lt))).1

  free_at_start : is_covered others start ≡ false
  free_at_start =
      let low = is.low in let more = its.0.some in
      either (cases_lt start r.place)
      (λ lt. free_before start (omega arith) lt)
      (λ ge. uncovered r others its.1 start (in_range r start (omega arith) (omega arith)))

  covered_before : (k : ℕ) → k + 1 ≡ start → is_covered others k ≡ true
  covered_before k next =
      let low = is.low in let lt : k < words = in_space k (omega arith) in
      let taken : is_covered (before ++ r ∷ after) k ≡ true = not_true (is_covered (before ++ r ∷ after) k) (sym (same k lt) ∙ is.first k next) in
      either (one_true (covers r k) (is_covered others k) (sym (split k) ∙ taken))
      (λ here. let from = (is_in r k here).0 in absurd (omega arith))
      (λ there. there)

  pub is_free_from : free_from others r.place ≡ start
  is_free_from =
      let upper : free_from others r.place ≤ start = not_beyond words r.place start 0 others its.2 (omega arith) free_before in
      either (cases_lt 0 start)
      (λ some. let k = start - 1 in let next : k + 1 ≡ start = omega arith in let low = is.low in
      let lower : k + 1 ≤ free_from others r.place =
      reaches_to r.place k 0 others (covered_before k next) (subst (λ n. is_covered others n ≡ false) (sym next) free_at_start) (omega arith) in omega arith)
      (λ none. omega arith)

  pub lowered : (align to : ℕ) → to ≡ next_multiple_of start align → to < r.place → to ≡ lower_place others r.place align
  lowered align to e lt = let same_to : next_multiple_of (free_from others r.place) align ≡ to = ap (λ n. next_multiple_of n align) is_free_from ∙ sym e in omega arith

  pub not_lowered : (align : ℕ) → r.place ≤ next_multiple_of start align → r.place ≡ lower_place others r.place align
  not_lowered align le =
      let far : r.place ≤ next_multiple_of (free_from others r.place) align = subst (λ n. r.place ≤ next_multiple_of n align) (sym is_free_from) le in omega arith
