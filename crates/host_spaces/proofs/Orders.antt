-- Lists of blocks in place order: where a new one goes, and what is left without one.
use Rattle.std.proofs.Common.{◌≡◌, ℕ, zero, suc, ◌<◌, ◌≤◌, ◌==◌, ◌⊎◌, inl, inr, Bool, true, false, not, cond, nat_lt, if◌then◌else◌, List, [], ◌∷◌, ◌++◌, filter, length, get_or, remove, insert, refl, sym, ap, subst, ◌∙◌, arith}
use Rattle.std.proofs.lemmas.Bool.{cases_lt, eq-eqb, eqb-true}
use Rattle.std.proofs.lemmas.Bool.Decides.{nat_tests}
use Rattle.relocate.proofs.RangeTests.{true_or_false, when_not}
use Rattle.host_map.specs.declared.placed.Placed.{Placed}
use Rattle.host_map.specs.Blocks.{with_block, without_at}
use Rattle.host_spaces.proofs.BlockPlacing.{block_from, with_place}
use Rattle.host_map.specs.Moves.{moved_to}

low : (m n : ℕ) → m < n → nat_lt m n ≡ true
low m n lt = grind (arith, nat_tests)

high : (m n : ℕ) → n ≤ m → nat_lt m n ≡ false
high m n ge = grind (arith, nat_tests)

-- it comes behind one that begins before it
pub behind : (b c : Placed) (cs : List Placed) → c.place < b.place → with_block b (c ∷ cs) ≡ c ∷ with_block b cs
behind b c cs lt = ap (λ t. if t then c ∷ with_block b cs else b ∷ c ∷ cs) (low c.place b.place lt)

pub before : (b c : Placed) (cs : List Placed) → b.place ≤ c.place → with_block b (c ∷ cs) ≡ b ∷ c ∷ cs
before b c cs le = ap (λ t. if t then c ∷ with_block b cs else b ∷ c ∷ cs) (high c.place b.place le)

-- all begin before the place
abbrev pub BeginBefore : ℕ → List Placed → Type 0
BeginBefore place [] = Unit {0}
BeginBefore place (b ∷ bs) = (b.place < place) × BeginBefore place bs

-- the first of them begins at the place or behind it
abbrev pub BeginsFrom : ℕ → List Placed → Type 0
BeginsFrom place [] = Unit {0}
BeginsFrom place (b ∷ bs) = place ≤ b.place

-- where a block is put
pub record IsPutIn (b : Placed) (old new : List Placed) : Type 0 where
  pub left : List Placed
  pub right : List Placed
  pub split : old ≡ left ++ right
  pub joined : new ≡ left ++ b ∷ right
  pub low : BeginBefore b.place left
  pub high : BeginsFrom b.place right

pub put_in : (b : Placed) (bs : List Placed) → IsPutIn b bs (with_block b bs)
put_in b [] = record { left = []; right = []; split = refl; joined = refl; low = tt; high = tt }
put_in b (c ∷ cs) = elim (cases_lt c.place b.place) [
  | inl lt ↦ let p = put_in b cs in
      record { left = c ∷ p.left; right = p.right; split = ap (λ xs. c ∷ xs) p.split; joined = behind b c cs lt ∙ ap (λ xs. c ∷ xs) p.joined; low = (lt, p.low); high = p.high }
  | inr ge ↦ record { left = []; right = c ∷ cs; split = refl; joined = before b c cs ge; low = tt; high = ge }
]

next_end : (x : Placed) (xs : List Placed) (i : ℕ) (b d : Placed) → (length (x ∷ xs) ≤ suc i) ⊎ (b.place ≤ (get_or (x ∷ xs) (suc i) d).place) → (length xs ≤ i) ⊎ (b.place ≤ (get_or xs i d).place)
next_end x xs i b d (inl end) = inl (omega arith)
next_end x xs i b d (inr ge) = inr ge

-- behind all that begin before it
pub inserted : (xs : List Placed) (i : ℕ) (b d : Placed) → i ≤ length xs → ((k : ℕ) (e : Placed) → k < i → (get_or xs k e).place < b.place) →
    (length xs ≤ i) ⊎ (b.place ≤ (get_or xs i d).place) → insert xs i b ≡ with_block b xs
inserted [] zero b d le low high = refl
inserted [] (suc i) b d le low high = absurd (omega arith)
inserted (x ∷ xs) zero b d le low (inl end) = absurd (omega arith)
inserted (x ∷ xs) zero b d le low (inr ge) = sym (before b x xs ge)
inserted (x ∷ xs) (suc i) b d le low high =
    let first : x.place < b.place = low 0 d (omega arith) in let less : i ≤ length xs = omega arith in
    ap (λ ys. x ∷ ys) (inserted xs i b d less (λ k e lt. low (suc k) e (omega arith)) (next_end x xs i b d high))
    ∙ sym (behind b x xs first)

pub length_with : (b : Placed) (bs : List Placed) → length (with_block b bs) ≡ suc (length bs)
length_with b [] = refl
length_with b (c ∷ cs) = elim (cases_lt c.place b.place) [
  | inl lt ↦ ap length (behind b c cs lt) ∙ ap suc (length_with b cs)
  | inr ge ↦ ap length (before b c cs ge)
]

-- ---- in place order, no two at one place

abbrev pub AreSortedFrom : ℕ → List Placed → Type 0
AreSortedFrom from [] = Unit {0}
AreSortedFrom from (b ∷ bs) = (from ≤ b.place) × AreSortedFrom (suc b.place) bs

pub sorted_lower : (from low : ℕ) (bs : List Placed) → AreSortedFrom from bs → low ≤ from → AreSortedFrom low bs
sorted_lower from low [] are le = tt
sorted_lower from low (b ∷ bs) are le = (let first = are.0 in omega arith, are.1)

-- none begins before the place from which on they begin
pub sorted_at : (from : ℕ) (bs : List Placed) (k : ℕ) (d : Placed) → AreSortedFrom from bs → k < length bs → from ≤ (get_or bs k d).place
sorted_at from [] k d are lt = absurd (omega arith)
sorted_at from (b ∷ bs) zero d are lt = are.0
sorted_at from (b ∷ bs) (suc k) d are lt = let first = are.0 in let rest = sorted_at (suc b.place) bs k d are.1 (omega arith) in omega arith

-- two that begin at one place are one
pub same_index : (from : ℕ) (bs : List Placed) (j k : ℕ) (d e : Placed) → AreSortedFrom from bs → j < length bs → k < length bs
    → (get_or bs j d).place ≡ (get_or bs k e).place → j ≡ k
same_index from [] j k d e are j_lt k_lt same = absurd (omega arith)
same_index from (b ∷ bs) zero zero d e are j_lt k_lt same = refl
same_index from (b ∷ bs) zero (suc k) d e are j_lt k_lt same = let more = sorted_at (suc b.place) bs k e are.1 (omega arith) in absurd (omega arith)
same_index from (b ∷ bs) (suc j) zero d e are j_lt k_lt same = let more = sorted_at (suc b.place) bs j d are.1 (omega arith) in absurd (omega arith)
same_index from (b ∷ bs) (suc j) (suc k) d e are j_lt k_lt same = ap suc (same_index (suc b.place) bs j k d e are.1 (omega arith) (omega arith) same)

pub is_other : (m n : ℕ) → (m ≡ n → ⊥) → (m == n) ≡ false
is_other m n apart = when_not (m == n) (λ is. apart (eqb-true m n is))

module _ (p : Placed → Bool) where
  pub kept : (c : Placed) (cs : List Placed) → p c ≡ true → filter p (c ∷ cs) ≡ c ∷ filter p cs
  kept c cs is = ap (λ t. cond t (c ∷ filter p cs) (filter p cs)) is

  pub dropped : (c : Placed) (cs : List Placed) → p c ≡ false → filter p (c ∷ cs) ≡ filter p cs
  dropped c cs is = ap (λ t. cond t (c ∷ filter p cs) (filter p cs)) is

  pub sorted_filter : (from : ℕ) (bs : List Placed) → AreSortedFrom from bs → AreSortedFrom from (filter p bs)
  sorted_filter from [] are = tt
  sorted_filter from (b ∷ bs) are = elim (true_or_false (p b)) [
    | inl is ↦ subst (AreSortedFrom from) (sym (kept b bs is)) (are.0, sorted_filter (suc b.place) bs are.1)
    | inr out ↦ subst (AreSortedFrom from) (sym (dropped b bs out)) (let first = are.0 in sorted_lower (suc b.place) from (filter p bs) (sorted_filter (suc b.place) bs are.1) (omega arith))
  ]

  first_of_all : (b : Placed) (bs : List Placed) → AreSortedFrom b.place bs → with_block b bs ≡ b ∷ bs
  first_of_all b [] are = refl
  first_of_all b (c ∷ cs) are = before b c cs are.0

  -- one that passes no test isn't seen by it
  pub filter_out : (b : Placed) (bs : List Placed) → p b ≡ false → filter p (with_block b bs) ≡ filter p bs
  filter_out b [] out = dropped b [] out
  filter_out b (c ∷ cs) out = elim (cases_lt c.place b.place) [
    | inl lt ↦ ap (filter p) (behind b c cs lt) ∙ ap (λ xs. cond (p c) (c ∷ xs) xs) (filter_out b cs out)
    | inr ge ↦ ap (filter p) (before b c cs ge) ∙ dropped b (c ∷ cs) out
  ]

  -- one that passes is put among those that pass
  pub filter_in : (from : ℕ) (b : Placed) (bs : List Placed) → p b ≡ true → AreSortedFrom from bs → filter p (with_block b bs) ≡ with_block b (filter p bs)
  filter_in from b [] is are = kept b [] is
  filter_in from b (c ∷ cs) is are = elim (cases_lt c.place b.place) [
    | inl lt ↦ elim (true_or_false (p c)) [
      | inl stays ↦ ap (filter p) (behind b c cs lt) ∙ kept c (with_block b cs) stays ∙ ap (λ xs. c ∷ xs) (filter_in (suc c.place) b cs is are.1)
          ∙ sym (behind b c (filter p cs) lt) ∙ ap (with_block b) (sym (kept c cs stays))
      | inr goes ↦ ap (filter p) (behind b c cs lt) ∙ dropped c (with_block b cs) goes ∙ filter_in (suc c.place) b cs is are.1 ∙ ap (with_block b) (sym (dropped c cs goes))
    ]
    | inr ge ↦
        let all : AreSortedFrom b.place (c ∷ cs) = (ge, are.1) in
        ap (filter p) (before b c cs ge) ∙ kept b (c ∷ cs) is ∙ sym (first_of_all b (filter p (c ∷ cs)) (sorted_filter b.place (c ∷ cs) all))
  ]

  -- without one that doesn't pass
  pub filter_removed : (bs : List Placed) (k : ℕ) (d : Placed) → k < length bs → p (get_or bs k d) ≡ false → filter p (remove bs k) ≡ filter p bs
  filter_removed [] k d lt out = absurd (omega arith)
  filter_removed (b ∷ bs) zero d lt out = sym (dropped b bs out)
  filter_removed (b ∷ bs) (suc k) d lt out = ap (λ xs. cond (p b) (b ∷ xs) xs) (filter_removed bs k d (omega arith) out)

-- all of them begin behind the place
none_at : (place from : ℕ) (bs : List Placed) → AreSortedFrom from bs → place < from → without_at place bs ≡ bs
none_at place from [] are lt = refl
none_at place from (b ∷ bs) are lt =
    let first = are.0 in
    kept (λ c. not (c.place == place)) b bs (ap not (is_other b.place place (λ same. omega arith)))
    ∙ ap (λ xs. b ∷ xs) (none_at place (suc b.place) bs are.1 (omega arith))

-- the block at a place is that of one index
pub removed_at : (from : ℕ) (bs : List Placed) (k : ℕ) (d : Placed) → AreSortedFrom from bs → k < length bs → remove bs k ≡ without_at (get_or bs k d).place bs
removed_at from [] k d are lt = absurd (omega arith)
removed_at from (b ∷ bs) zero d are lt =
    sym (dropped (λ c. not (c.place == b.place)) b bs (ap not (eq-eqb b.place b.place refl)) ∙ none_at b.place (suc b.place) bs are.1 (omega arith))
removed_at from (b ∷ bs) (suc k) d are lt =
    let more = sorted_at (suc b.place) bs k d are.1 (omega arith) in
    ap (λ xs. b ∷ xs) (removed_at (suc b.place) bs k d are.1 (omega arith))
    ∙ sym (kept (λ c. not (c.place == (get_or bs k d).place)) b bs (ap not (is_other b.place (get_or bs k d).place (λ same. omega arith))))

-- one that was put in and is taken out again
pub without_with : (from : ℕ) (b : Placed) (bs : List Placed) → AreSortedFrom from (with_block b bs) → without_at b.place (with_block b bs) ≡ bs
without_with from b [] are = dropped (λ c. not (c.place == b.place)) b [] (ap not (eq-eqb b.place b.place refl))
without_with from b (c ∷ cs) are = elim (cases_lt c.place b.place) [
  | inl lt ↦ let is = subst (AreSortedFrom from) (behind b c cs lt) are in
      ap (without_at b.place) (behind b c cs lt)
      ∙ kept (λ x. not (x.place == b.place)) c (with_block b cs) (ap not (is_other c.place b.place (λ same. omega arith)))
      ∙ ap (λ xs. c ∷ xs) (without_with (suc c.place) b cs is.1)
  | inr ge ↦ let is = subst (AreSortedFrom from) (before b c cs ge) are in
      ap (without_at b.place) (before b c cs ge)
      ∙ dropped (λ x. not (x.place == b.place)) b (c ∷ cs) (ap not (eq-eqb b.place b.place refl))
      ∙ none_at b.place (suc b.place) (c ∷ cs) is.1 (omega arith)
]

not_from : (place to : ℕ) (b : Placed) → (b.place ≡ place → ⊥) → block_from place to b ≡ b
not_from place to b apart = ap (λ t. if t then record b { place = to } else b) (is_other b.place place apart)

none_from : (place to from : ℕ) (bs : List Placed) → AreSortedFrom from bs → place < from → with_place place to bs ≡ bs
none_from place to from [] are lt = refl
none_from place to from (b ∷ bs) are lt =
    let first = are.0 in
    ap (λ (c : Placed). c ∷ with_place place to bs) (not_from place to b (λ same. omega arith))
    ∙ ap (λ xs. b ∷ xs) (none_from place to (suc b.place) bs are.1 (omega arith))

-- the block of one index at another place
pub moved_from : (from : ℕ) (bs : List Placed) (k to : ℕ) (d : Placed) → AreSortedFrom from bs → k < length bs → moved_to bs k to ≡ with_place (get_or bs k d).place to bs
moved_from from [] k to d are lt = absurd (omega arith)
moved_from from (b ∷ bs) zero to d are lt =
    sym (ap (λ t. (if t then record b { place = to } else b) ∷ with_place b.place to bs) (eq-eqb b.place b.place refl)
    ∙ ap (λ xs. record b { place = to } ∷ xs) (none_from b.place to (suc b.place) bs are.1 (omega arith)))
moved_from from (b ∷ bs) (suc k) to d are lt =
    let more = sorted_at (suc b.place) bs k d are.1 (omega arith) in
    ap (λ xs. b ∷ xs) (moved_from (suc b.place) bs k to d are.1 (omega arith))
    ∙ sym (ap (λ (c : Placed). c ∷ with_place (get_or bs k d).place to bs) (not_from (get_or bs k d).place to b (λ same. omega arith)))
