-- The search for a place among blocks in place order.
use Rattle.std.proofs.Common.{◌≡◌, ℕ, zero, suc, ◌+◌, ◌-◌, ◌/◌, ◌<◌, ◌≤◌, ◌⊎◌, inl, inr, List, [], ◌∷◌, length, get_or, Contains, ◌∙◌, ap, arith}
use Rattle.std.proofs.lemmas.Bool.{cases_lt}
use Rattle.relocate.specs.Spots.{AreSpotsFrom}
use Rattle.host_map.specs.declared.placed.Placed.{Placed}
use Rattle.host_map.specs.Moves.{spots_of}

low_at : (from : ℕ) (bs : List Placed) (k : ℕ) (d : Placed) → AreSpotsFrom from (spots_of bs) → k < length bs → from ≤ (get_or bs k d).place
low_at from [] k d are lt = absurd (omega arith)
low_at from (b ∷ bs) zero d are lt = are.1
low_at from (b ∷ bs) (suc k) d are lt =
    let first = are.1 in let rest = low_at (b.place + b.size) bs k d are.2 (omega arith) in omega arith

-- one behind another begins no earlier
pub rises : (from : ℕ) (bs : List Placed) (j k : ℕ) (d e : Placed) → AreSpotsFrom from (spots_of bs) → j ≤ k → k < length bs → (get_or bs j d).place ≤ (get_or bs k e).place
rises from [] j k d e are le lt = absurd (omega arith)
rises from (b ∷ bs) zero zero d e are le lt = omega arith
rises from (b ∷ bs) zero (suc k) d e are le lt = let rest = low_at (b.place + b.size) bs k e are.2 (omega arith) in omega arith
rises from (b ∷ bs) (suc j) zero d e are le lt = absurd (omega arith)
rises from (b ∷ bs) (suc j) (suc k) d e are le lt = rises (b.place + b.size) bs j k d e are.2 (omega arith) (omega arith)

-- where so many begin before the place, the next one begins there or behind it
pub end_or_behind : (bs : List Placed) (i place : ℕ) (d : Placed) → ((k : ℕ) (e : Placed) → i ≤ k → k < length bs → place ≤ (get_or bs k e).place)
    → (length bs ≤ i) ⊎ (place ≤ (get_or bs i d).place)
end_or_behind bs i place d behind = elim (cases_lt i (length bs)) [
  | inl lt ↦ inr (behind i d (omega arith) lt)
  | inr ge ↦ inl ge
]

module _ (bs : List Placed) (i place : ℕ) (before : (k : ℕ) (d : Placed) → k < i → (get_or bs k d).place < place)
    (behind : (k : ℕ) (d : Placed) → i ≤ k → k < length bs → place ≤ (get_or bs k d).place) (there : (b : Placed) × Contains bs b × (b.place ≡ place)) where
  abbrev k : ℕ
  k = there.1.0

  at : (get_or bs k there.0).place ≡ place
  at = ap (λ (b : Placed). b.place) there.1.2 ∙ there.2

  upto : i ≤ k
  upto = elim (cases_lt k i) [
    | inl lt ↦ (let less = before k there.0 lt in let same = at in absurd (omega arith))
    | inr ge ↦ ge
  ]

  -- one of them begins at the place, and it is that one
  pub there_within : i < length bs
  there_within = let lt = there.1.1 in let le = upto in omega arith

  pub there_at : AreSpotsFrom 0 (spots_of bs) → (d : Placed) → (get_or bs i d).place ≡ place
  there_at are d =
      let ge = behind i d (omega arith) there_within in
      let le = rises 0 bs i k d there.0 are upto there.1.1 in
      let same = at in omega arith

pub middle : (low high : ℕ) → low < high → low + (high - low) / 2 < high
middle low high lt = omega (arith, lt)

-- what begins before the place, and all before it
pub below : (bs : List Placed) (m place : ℕ) (e : Placed) → AreSpotsFrom 0 (spots_of bs) → m < length bs → (get_or bs m e).place < place
    → (k : ℕ) (d : Placed) → k < m + 1 → (get_or bs k d).place < place
below bs m place e are inside lt k d less = let le = rises 0 bs k m d e are (omega (arith, less)) inside in omega (arith, le, lt)

-- what doesn't, and all behind it
pub above : (bs : List Placed) (m place : ℕ) (e : Placed) → AreSpotsFrom 0 (spots_of bs) → place ≤ (get_or bs m e).place
    → (k : ℕ) (d : Placed) → m ≤ k → k < length bs → place ≤ (get_or bs k d).place
above bs m place e are ge k d le lt = let more = rises 0 bs m k e d are le lt in omega (arith, more, ge)
