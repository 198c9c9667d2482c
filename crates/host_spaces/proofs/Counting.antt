-- How many blocks there can be: each owner has a number of its own.
use Rattle.std.proofs.Common.{◌≡◌, ◌≢◌, ℕ, zero, suc, ◌+◌, ◌*◌, ◌<◌, ◌≤◌, ◌||◌, inl, inr, true, false, List, [], ◌∷◌, length, get_or, map, eqb, Contains, refl, sym, ap, ◌∙◌, arith}
use Rattle.std.specs.List.{AllByRecursion, IsDistinct, list_any}
use Rattle.std.proofs.lemmas.Bool.{cases_lt, eqb-true}
use Rattle.std.proofs.lemmas.List.{length-map}
use Rattle.std.proofs.lemmas.Map.Steps.{length-le_from_distinct_below}
use Rattle.mem_rec.specs.declared.TheConstants.{TABLE_RECORDS, INSTANCES}
use Rattle.space_raw.specs.Span.{Apart, Span}
use Rattle.relocate.specs.Places.{Range, end_of, meets}
use Rattle.space_heap.specs.Maps.{AreBlocks, range_of}
use Rattle.relocate.proofs.RangeTests.{both_false, clash, meet_if, meet_sym, true_or_false}
use Rattle.host_map.specs.declared.TheConstants.{MAP_BLOCKS}
use Rattle.host_map.specs.declared.placed.Owner.{Owner}
use Rattle.host_map.specs.declared.placed.Owner.TheVariants.{Record, Scratch}
use Rattle.host_map.specs.declared.placed.Placed.{Placed}
use Rattle.host_map.specs.Blocks.{AreSingle, IsOwner, block_range, owned, ranges, same_owner}
use Rattle.host_spaces.specs.Blocks.{Owns, block_of}
use Rattle.host_spaces.proofs.Orders.{dropped, is_other, kept}
use Rattle.host_spaces.proofs.Owners.{itself, stands}

abbrev number : Owner → ℕ
number (Record i k) = 4 * i + k
number (Scratch g) = 256 + g

abbrev numbers : List Placed → List ℕ
numbers bs = map (λ b. number b.owner) bs

below : (o : Owner) → IsOwner o → number o < 264
below (Record i k) is = let a = is.0 in let b = is.1 in omega arith
below (Scratch g) is = omega arith

one_number : (o q : Owner) → IsOwner o → IsOwner q → number o ≡ number q → o ≡ q
one_number (Record i k) (Record j l) is it e =
    let b = is.1 in let d = it.1 in let a : i ≡ j = omega arith in let c : k ≡ l = omega arith in ap (λ n. Record n k) a ∙ ap (λ n. Record j n) c
one_number (Record i k) (Scratch h) is it e = let a = is.0 in let b = is.1 in absurd (omega arith)
one_number (Scratch g) (Record j l) is it e = let a = it.0 in let b = it.1 in absurd (omega arith)
one_number (Scratch g) (Scratch h) is it e = let a : g ≡ h = omega arith in ap Scratch a

abbrev AllOwners : List Placed → Type 0
AllOwners [] = Unit {0}
AllOwners (b ∷ bs) = IsOwner b.owner × AllOwners bs

all_owners : (bs : List Placed) → ((b : Placed) → Contains bs b → IsOwner b.owner) → AllOwners bs
all_owners [] each = tt
all_owners (b ∷ bs) each = (
  each b (zero, (let n : zero < suc (length bs) = omega arith in n), refl),
  all_owners bs (λ c it. let inside = it.1 in each c (suc it.0, (let n : suc it.0 < suc (length bs) = omega arith in n), it.2)),
)

-- no number of the list is this one
abbrev Misses : ℕ → List ℕ → Type 0
Misses n ns = AllByRecursion (λ m. eqb n m ≡ false) ns

none_numbered : (o : Owner) (bs : List Placed) → IsOwner o → AllOwners bs → length (owned o bs) ≤ 0 → Misses (number o) (numbers bs)
none_numbered o [] is all none = tt
none_numbered o (b ∷ bs) is all none = elim (true_or_false (same_owner o b.owner)) [
  | inl same ↦ let n = ap length (kept (λ c. same_owner o c.owner) b bs same) in absurd (omega arith)
  | inr out ↦ let n = ap length (dropped (λ c. same_owner o c.owner) b bs out) in (
    is_other (number o) (number b.owner) (λ e. clash (same_owner o b.owner) (ap (same_owner o) (sym (one_number o b.owner is all.0 e)) ∙ itself o) out),
    none_numbered o bs is all.1 (omega arith),
  )
]

none_left : (o : Owner) (b : Placed) (bs : List Placed) → length (owned o (b ∷ bs)) ≤ 1 → length (owned o bs) ≤ 1
none_left o b bs few = elim (true_or_false (same_owner o b.owner)) [
  | inl same ↦ let n = ap length (kept (λ c. same_owner o c.owner) b bs same) in omega arith
  | inr out ↦ let n = ap length (dropped (λ c. same_owner o c.owner) b bs out) in omega arith
]

distinct : (bs : List Placed) → AllOwners bs → ((o : Owner) → length (owned o bs) ≤ 1) → IsDistinct eqb (numbers bs)
unfolding IsDistinct
distinct [] all single = tt
distinct (b ∷ bs) all single =
    let n = ap length (kept (λ c. same_owner b.owner c.owner) b bs (itself b.owner)) in let one = single b.owner in
    (none_numbered b.owner bs all.0 all.1 (omega arith), distinct bs all.1 (λ o. none_left o b bs (single o)))

is_below : (bs : List Placed) → AllOwners bs → (q : ℕ) → list_any (eqb q) (numbers bs) ≡ true → q < 264
is_below [] all q it = clash false it refl
is_below (b ∷ bs) all q it = elim (true_or_false (eqb q (number b.owner))) [
  | inl same ↦ let e = eqb-true q (number b.owner) same in let lt = below b.owner all.0 in omega arith
  | inr out ↦ is_below bs all.1 q (sym (ap (λ t. t || list_any (eqb q) (numbers bs)) out) ∙ it)
]

pub few : (bs : List Placed) → AreSingle bs → length bs ≤ MAP_BLOCKS
few bs single =
    let all = all_owners bs single.owners in
    let lt = length-le_from_distinct_below (numbers bs) 264 (distinct bs all single.single) (is_below bs all) in
    let same = length-map bs (λ b. number b.owner) in omega arith

module _ (bs : List Placed) (i : ℕ) (single : AreSingle bs) (lt : i < INSTANCES) (free : (k : ℕ) → owned (Record i k) bs ≡ []) where
  all : AllOwners bs
  all = all_owners bs single.owners

  free_number : (k : ℕ) → k < TABLE_RECORDS → Misses (4 * i + k) (numbers bs)
  free_number k less = none_numbered (Record i k) bs (lt, less) all (let n = ap length (free k) in omega arith)

  apart : (j k : ℕ) → j < k → eqb (4 * i + j) (4 * i + k) ≡ false
  apart j k less = is_other (4 * i + j) (4 * i + k) (λ e. omega arith)

  more : List ℕ
  more = (4 * i + 0) ∷ (4 * i + 1) ∷ (4 * i + 2) ∷ (4 * i + 3) ∷ numbers bs

  in_range : (k : ℕ) → k < TABLE_RECORDS → (q : ℕ) (rest : List ℕ) → (list_any (eqb q) rest ≡ true → q < 264) → list_any (eqb q) ((4 * i + k) ∷ rest) ≡ true → q < 264
  in_range k less q rest others it = elim (true_or_false (eqb q (4 * i + k))) [
    | inl same ↦ let e = eqb-true q (4 * i + k) same in omega arith
    | inr out ↦ others (sym (ap (λ t. t || list_any (eqb q) rest) out) ∙ it)
  ]

  pub room : length bs + TABLE_RECORDS ≤ MAP_BLOCKS
  unfolding IsDistinct
  room =
      let same = length-map bs (λ b. number b.owner) in
      let four : IsDistinct eqb ((4 * i + 0) ∷ (4 * i + 1) ∷ (4 * i + 2) ∷ (4 * i + 3) ∷ numbers bs) = (
        (apart 0 1 (omega arith), (apart 0 2 (omega arith), (apart 0 3 (omega arith), free_number 0 (omega arith)))),
        (
          (apart 1 2 (omega arith), (apart 1 3 (omega arith), free_number 1 (omega arith))),
          ((apart 2 3 (omega arith), free_number 2 (omega arith)), (free_number 3 (omega arith), distinct bs all single.single)),
        ),
      ) in
      let within : (q : ℕ) → list_any (eqb q) ((4 * i + 0) ∷ (4 * i + 1) ∷ (4 * i + 2) ∷ (4 * i + 3) ∷ numbers bs) ≡ true → q < 264 =
      λ q. in_range 0 (omega arith) q ((4 * i + 1) ∷ (4 * i + 2) ∷ (4 * i + 3) ∷ numbers bs)
      (in_range 1 (omega arith) q ((4 * i + 2) ∷ (4 * i + 3) ∷ numbers bs)
      (in_range 2 (omega arith) q ((4 * i + 3) ∷ numbers bs)
      (in_range 3 (omega arith) q (numbers bs) (is_below bs all q)))) in
      let most = length-le_from_distinct_below ((4 * i + 0) ∷ (4 * i + 1) ∷ (4 * i + 2) ∷ (4 * i + 3) ∷ numbers bs) 264 four within in
      omega arith

-- ---- two blocks don't meet

not_meeting : (r : Range) (bs : List Placed) (k : ℕ) (d : Placed) → list_any (meets r) (ranges bs) ≡ false → k < length bs → meets r (block_range (get_or bs k d)) ≡ false
not_meeting r [] k d none lt = absurd (omega arith)
not_meeting r (b ∷ bs) zero d none lt = (both_false (meets r (block_range b)) (list_any (meets r) (ranges bs)) none).0
not_meeting r (b ∷ bs) (suc k) d none lt = not_meeting r bs k d (both_false (meets r (block_range b)) (list_any (meets r) (ranges bs)) none).1 (omega arith)

two_apart : (words : ℕ) (bs : List Placed) (j k : ℕ) (d e : Placed) → AreBlocks words (ranges bs) → j < k → k < length bs → meets (block_range (get_or bs j d)) (block_range (get_or bs k e)) ≡ false
two_apart words [] j k d e are less lt = absurd (omega arith)
two_apart words (b ∷ bs) zero zero d e are less lt = absurd (omega arith)
two_apart words (b ∷ bs) zero (suc k) d e are less lt = not_meeting (block_range b) bs k e are.1 (omega arith)
two_apart words (b ∷ bs) (suc j) zero d e are less lt = absurd (omega arith)
two_apart words (b ∷ bs) (suc j) (suc k) d e are less lt = two_apart words bs j k d e are.2 (omega arith) (omega arith)

ends_apart : (s t : Span) → meets (range_of s) (range_of t) ≡ false → Apart s t
ends_apart s t out = elim (cases_lt (range_of s).place (end_of (range_of t))) [
  | inl lt ↦ elim (cases_lt (range_of t).place (end_of (range_of s))) [
    | inl more ↦ clash (meets (range_of s) (range_of t)) (meet_if (range_of s) (range_of t) lt more) out
    | inr ge ↦ inr (inr (inl ge))
  ]
  | inr ge ↦ inr (inr (inr ge))
]

same_there : (bs : List Placed) (k : ℕ) (d e : Placed) → k < length bs → get_or bs k d ≡ get_or bs k e
same_there [] k d e lt = absurd (omega arith)
same_there (b ∷ bs) zero d e lt = refl
same_there (b ∷ bs) (suc k) d e lt = same_there bs k d e (omega arith)

at_these : (bs : List Placed) (j k : ℕ) (d e : Placed) (s t : Span) → block_range (get_or bs j d) ≡ range_of s → block_range (get_or bs k e) ≡ range_of t
    → meets (block_range (get_or bs j d)) (block_range (get_or bs k e)) ≡ false → meets (range_of s) (range_of t) ≡ false
at_these bs j k d e s t is it out = ap (λ r. meets r (range_of t)) (sym is) ∙ ap (meets (block_range (get_or bs j d))) (sym it) ∙ out

pub apart_blocks : (words : ℕ) (bs : List Placed) (o q : Owner) (s t : Span) → AreBlocks words (ranges bs) → Owns bs o s → Owns bs q t → o ≢ q → Apart s t
apart_blocks words bs o q s t are its others apart =
    let w = stands bs o s its in let v = stands bs q t others in let d = block_of o w.align s in let e = block_of q v.align t in
    let differ : w.index ≢ v.index = λ same. apart (ap (λ (b : Placed). b.owner) (sym w.is ∙ ap (λ n. get_or bs n d) same ∙ same_there bs v.index d e v.inside ∙ v.is)) in
    ends_apart s t (elim (cases_lt w.index v.index) [
      | inl less ↦ at_these bs w.index v.index d e s t (ap block_range w.is) (ap block_range v.is) (two_apart words bs w.index v.index d e are less v.inside)
      | inr ge ↦ let less : v.index < w.index = omega arith in
          meet_sym (range_of t) (range_of s) (at_these bs v.index w.index e d t s (ap block_range v.is) (ap block_range w.is) (two_apart words bs v.index w.index e d are less w.inside))
    ])
