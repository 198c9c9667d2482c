-- Places around a ring.
use Rattle.std.proofs.Common.{◌≡◌, ◌≢◌, ◌⊎◌, ℕ, ℤ, zero, suc, pos, ◌+◌, ◌-◌, ◌%◌, ◌<◌, ◌≤◌, List, [], ◌∷◌, length, inl, inr, refl, sym, ap, subst, ◌∙◌, arith, get_or-set_other, get_or-set_same}
use Rattle.std.proofs.Math.Nat.{mod-eq_of_lt, add-mod_right, mod-add-mod}
use Rattle.std.proofs.Math.ListN.{set, length-set}
use Rattle.std.proofs.lemmas.Bool.{cases_lt}
use Rattle.ialg.specs.History.{History, Sample, past, with_samples, word_at}
use Rattle.fir_kernel.specs.Rings.{IsNoPlace, IsRing}

-- once around at most
pub by_mod : (m r v : ℕ) → m < r + r → m % r ≡ v → (m ≡ v) ⊎ (m ≡ v + r)
by_mod m r v b e = elim (cases_lt m r) [
  | inl h ↦
      let s : m % r ≡ m = mod-eq_of_lt h in
      inl (omega arith)
  | inr h ↦
      let t : m - r + r ≡ m = omega arith in
      let s : (m - r + r) % r ≡ (m - r) % r = add-mod_right (m - r) r in
      let small : m - r < r = omega arith in
      let u : (m - r) % r ≡ m - r = mod-eq_of_lt small in
      let w : m % r ≡ m - r = ap (λ n. n % r) (sym t) ∙ s ∙ u in
      inr (omega arith)
]

pub mod_near : (m r v : ℕ) → v < r → m ≡ v → m % r ≡ v
mod_near m r v b e = ap (λ n. n % r) e ∙ mod-eq_of_lt b

pub mod_around : (m r v : ℕ) → v < r → m ≡ v + r → m % r ≡ v
mod_around m r v b e = ap (λ n. n % r) e ∙ add-mod_right v r ∙ mod-eq_of_lt b

-- where the next place is one further, or the first one again
abbrev pub Turns : ℕ → ℕ → ℕ → Type 0
Turns size at next = (at + 1 ≡ next) ⊎ ((at + 1 ≡ size) × (next ≡ 0))

pub turned : (m size at next : ℕ) → next < size → Turns size at next → m % size ≡ at → (m + 1) % size ≡ next
turned m size at next within turns e =
    sym (mod-add-mod m size 1) ∙ ap (λ n. (n + 1) % size) e ∙ elim turns [
      | inl t ↦ mod_near (at + 1) size next within t
      | inr t ↦ mod_around (at + 1) size next within (omega (arith, t.0, t.1))
    ]

-- one more sample
module _ (count size at next : ℕ) (words : List ℤ) (h : History) (x : ℤ)
    (few : count ≤ size) (room : size ≤ length words) (within : next < size) (turns : Turns size at next) (ring : IsRing count size words at h) where
  newest : (j : ℕ) → j < size → (j + 0 + 1) % size ≡ next → j ≡ at
  newest j b e =
      let here : at < size = ring.within in
      elim (by_mod (j + 0 + 1) size next (omega arith) e) [
        | inl a ↦ elim turns [ inl t ↦ omega arith | inr t ↦ omega arith ]
        | inr a ↦ elim turns [ inl t ↦ omega arith | inr t ↦ omega arith ]
      ]

  older : (j k : ℕ) → suc k < count → j < size → (j + suc k + 1) % size ≡ next → (j ≢ at) × ((j + k + 1) % size ≡ at)
  older j k c b e =
      let here : at < size = ring.within in
      elim (by_mod (j + suc k + 1) size next (omega arith) e) [
        | inl a ↦ elim turns [
          | inl t ↦ ((λ (q : j ≡ at). absurd (omega arith)), mod_near (j + k + 1) size at here (omega arith))
          | inr t ↦ absurd (omega arith)
        ]
        | inr a ↦ elim turns [
          | inl t ↦ ((λ (q : j ≡ at). absurd (omega arith)), mod_around (j + k + 1) size at here (omega arith))
          | inr t ↦ ((λ (q : j ≡ at). absurd (omega arith)), mod_near (j + k + 1) size at here (omega arith))
        ]
      ]

  after : (j k : ℕ) → k < count → j < size → (j + k + 1) % size ≡ next → word_at (set words at x) j ≡ past (Sample x ∷ h) k
  after j zero c b e =
      let same : j ≡ at = newest j b e in
      let inside : at < length words = omega arith in
      ap (word_at (set words at x)) same ∙ get_or-set_same words at x (pos 0) inside
  after j (suc k) c b e =
      let o = older j k c b e in
      get_or-set_other words at j x (pos 0) o.0 ∙ ring.samples j k (omega arith) b o.1

  pub entered : IsRing count size (set words at x) next (Sample x ∷ h)
  entered = record { within = within; samples = after }

-- the words before `next`, and as many more at the ring's end
module _ (count size next : ℕ) (words : List ℤ) (h : History) (ring : IsRing count size words next h) where
  pub near_at : (i j k : ℕ) → j + k + 1 ≡ count → i + k + 1 ≡ next → word_at words i ≡ past h k
  near_at i j k e f =
      let here : next < size = ring.within in
      ring.samples i k (omega arith) (omega arith) (mod_near (i + k + 1) size next here f)

  pub around_at : (i j k : ℕ) → j + k + 1 ≡ count → i < size → i + k + 1 ≡ next + size → word_at words i ≡ past h k
  around_at i j k e b f =
      let here : next < size = ring.within in
      ring.samples i k (omega arith) b (mod_around (i + k + 1) size next here f)

-- the samples are written one behind the other, from word `next` on
abbrev written : List ℤ → ℕ → List ℤ → List ℤ
written words next [] = words
written words next (x ∷ xs) = written (set words next x) (suc next) xs

written_before : (words : List ℤ) (next : ℕ) (xs : List ℤ) (j : ℕ) → j < next → word_at (written words next xs) j ≡ word_at words j
written_before words next [] j b = refl
written_before words next (x ∷ xs) j b =
    let ne : j ≢ next = omega arith in
    written_before (set words next x) (suc next) xs j (omega arith) ∙ get_or-set_other words next j x (pos 0) ne

written_after : (words : List ℤ) (next : ℕ) (xs : List ℤ) (j : ℕ) → next + length xs ≤ j → word_at (written words next xs) j ≡ word_at words j
written_after words next [] j b = refl
written_after words next (x ∷ xs) j b =
    let ne : j ≢ next = omega arith in
    written_after (set words next x) (suc next) xs j (omega arith) ∙ get_or-set_other words next j x (pos 0) ne

written_at : (words : List ℤ) (next : ℕ) (xs : List ℤ) (k : ℕ) → next + length xs ≤ length words → k < length xs
    → word_at (written words next xs) (next + k) ≡ word_at xs k
written_at words next [] k room b = absurd (omega arith)
written_at words next (x ∷ xs) zero room b =
    let here : next + 0 ≡ next = omega arith in
    let inside : next < length words = omega arith in
    ap (word_at (written (set words next x) (suc next) xs)) here ∙ written_before (set words next x) (suc next) xs next (omega arith)
    ∙ get_or-set_same words next x (pos 0) inside
written_at words next (x ∷ xs) (suc k) room b =
    let on : next + suc k ≡ suc next + k = omega arith in
    let same : length (set words next x) ≡ length words = length-set words next x in
    ap (word_at (written (set words next x) (suc next) xs)) on ∙ written_at (set words next x) (suc next) xs k (omega arith) (omega arith)

-- where the next place is behind a row of so many samples, or the first one again
abbrev pub Follows : ℕ → ℕ → ℕ → ℕ → Type 0
Follows size next many after = (next + many ≡ after) ⊎ ((next + many ≡ size) × (after ≡ 0))

entered_in_row : (count size : ℕ) (words : List ℤ) (next after : ℕ) (h : History) (xs : List ℤ) → count ≤ size → size ≤ length words
    → next + length xs ≤ size → after < size → Follows size next (length xs) after → IsRing count size words next h
    → IsRing count size (written words next xs) after (with_samples h xs)
entered_in_row count size words next after h [] few room fits within follows ring =
    let here : next < size = ring.within in
    let same : next ≡ after = elim follows [ inl e ↦ omega arith | inr e ↦ absurd (omega arith) ] in
    subst (λ n. IsRing count size words n h) same ring
entered_in_row count size words next after h (x ∷ []) few room fits within follows ring =
    let turns : Turns size next after = elim follows [ inl e ↦ inl (omega arith) | inr e ↦ inr (omega arith, e.1) ] in
    entered count size next after words h x few room within turns ring
entered_in_row count size words next after h (x ∷ y ∷ ys) few room fits within follows ring =
    let same : length (set words next x) ≡ length words = length-set words next x in
    let further : Follows size (suc next) (length (y ∷ ys)) after = elim follows [ inl e ↦ inl (omega arith) | inr e ↦ inr (omega arith, e.1) ] in
    entered_in_row count size (set words next x) (suc next) after (Sample x ∷ h) (y ∷ ys) few (omega arith) (omega arith) within further
    (entered count size next (suc next) words h x few room (omega arith) (inl (omega arith)) ring)

-- where samples stand in a row, no other word is a place of theirs
pub row_stays : (size : ℕ) (words new : List ℤ) (next count : ℕ) → next + count ≤ size
    → ((k : ℕ) → k < next → word_at new k ≡ word_at words k)
    → ((k : ℕ) → next + count ≤ k → word_at new k ≡ word_at words k)
    → (j : ℕ) → IsNoPlace size next count j → word_at new j ≡ word_at words j
row_stays size words new next count fits before behind j out = elim (cases_lt j next) [
  | inl b ↦ before j b
  | inr b ↦ elim (cases_lt j (next + count)) [
    | inl i ↦
        let at : next + (j - next) ≡ j = omega arith in
        absurd (out (j - next) (omega arith) (mod_near (next + (j - next)) size j (omega arith) at))
    | inr o ↦ behind j o
  ]
]

-- the samples stand in a row, and the words before and behind it are as they were
pub row_entered : (count size : ℕ) (words new : List ℤ) (next after : ℕ) (h : History) (xs : List ℤ) → count ≤ size → size ≤ length words
    → next + length xs ≤ size → after < size → Follows size next (length xs) after
    → ((k : ℕ) → k < length xs → word_at new (next + k) ≡ word_at xs k)
    → ((k : ℕ) → k < next → word_at new k ≡ word_at words k)
    → ((k : ℕ) → next + length xs ≤ k → word_at new k ≡ word_at words k)
    → IsRing count size words next h → IsRing count size new after (with_samples h xs)
row_entered count size words new next after h xs few room fits within follows row before behind ring =
    let in_row = entered_in_row count size words next after h xs few room fits within follows ring in
    let same : (j : ℕ) → word_at new j ≡ word_at (written words next xs) j =
    λ j. elim (cases_lt j next) [
      | inl b ↦ before j b ∙ sym (written_before words next xs j b)
      | inr b ↦ elim (cases_lt j (next + length xs)) [
        | inl i ↦
            let at : next + (j - next) ≡ j = omega arith in
            let less : j - next < length xs = omega arith in
            ap (word_at new) (sym at) ∙ row (j - next) less ∙ sym (written_at words next xs (j - next) (omega arith) less) ∙ ap (word_at (written words next xs)) at
        | inr o ↦ behind j o ∙ sym (written_after words next xs j o)
      ]
    ] in
    record { within = within; samples = λ j k c b e. same j ∙ in_row.samples j k c b e }
