-- The intervals of a law stand in a row, so that each magnitude is in exactly one of them.
use Rattle.std.proofs.Common.{◌≡◌, ℕ, zero, suc, ◌+◌, ◌-◌, ◌*◌, ◌/◌, ◌%◌, ◌<◌, ◌≤◌, Bool, true, false, ◌&&◌, ◌==◌, nat_le, nat_lt, Some, find, unwrap_or, inl, inr, refl, ap, sym, ◌∙◌, subst, arith}
use Rattle.std.specs.List.{list_all, range_with_len}
use Rattle.std.proofs.lemmas.Nat.{div-mul-add, mod-mul-add}
use Rattle.std.proofs.lemmas.Bool.{cases_eq, cases_lt, and_parts}
use Rattle.std.proofs.lemmas.Bool.Decides.{nat_tests}
use Rattle.alg_g711.specs.declared.TheConstants.{INTERVALS}
use Rattle.alg_g711.specs.declared.companding.Law.{Law}
use Rattle.alg_g711.specs.declared.companding.Law.TheVariants.{A, Mu}
use Rattle.alg_g711.specs.Companding.{step_start, lower_end, holds, interval_of, middle_of}
use Rattle.alg_g711.specs.Steps.{step_width, width_of}

-- what was computed for each number of a range
pub all_in : (p : ℕ → Bool) (first count : ℕ) → list_all p (range_with_len first count) ≡ true
    → (k : ℕ) → first ≤ k → k < first + count → p k ≡ true
all_in p first zero e k low high = absurd (omega arith)
all_in p first (suc count) e k low high =
    let parts = and_parts (p first) (list_all p (range_with_len (first + 1) count)) e in
    elim (cases_eq first k) [
      | inl same ↦ subst (λ n. p n ≡ true) same parts.0
      | inr other ↦ all_in p (first + 1) count parts.1 k (omega arith) (omega arith)
    ]

-- the first number of a range that passes a test
find_first : (p : ℕ → Bool) (first count r : ℕ) → first ≤ r → r < first + count → p r ≡ true
    → ((k : ℕ) → first ≤ k → k < r → p k ≡ false) → find p (range_with_len first count) ≡ Some r
find_first p first zero r low high here before = absurd (omega arith)
find_first p first (suc count) r low high here before = elim (cases_eq first r) [
  | inl e ↦
      let test : p first ≡ true = subst (λ n. p n ≡ true) (sym e) here in
      rw test (ap Some e)
  | inr ne ↦
      let test : p first ≡ false = before first (omega arith) (omega arith) in
      rw test (find_first p (first + 1) count r (omega arith) (omega arith) here (λ k q s. before k (omega arith) s))
]

-- ---- in a row

ends_at_next : Law → ℕ → Bool
ends_at_next law number = lower_end law number + width_of law number == lower_end law (number + 1)

in_a_row : (law : Law) → list_all (ends_at_next law) (range_with_len 0 INTERVALS) ≡ true
unfolding ends_at_next
in_a_row A = refl
in_a_row Mu = refl

next : (law : Law) (k : ℕ) → k < INTERVALS → lower_end law k + width_of law k ≡ lower_end law (k + 1)
unfolding ends_at_next
next law k b =
    let e : ends_at_next law k ≡ true = all_in (ends_at_next law) 0 INTERVALS (in_a_row law) k (omega arith) (omega arith) in
    grind (arith, nat_tests, e)

pub in_order : (law : Law) (j n : ℕ) → j + suc n ≤ INTERVALS → lower_end law j + width_of law j ≤ lower_end law (j + suc n)
in_order law j zero b = let e = next law j (omega arith) in omega (arith, e)
in_order law j (suc n) b =
    let before = in_order law j n (omega arith) in
    let more = next law (j + suc n) (omega arith) in
    let z : j + suc n + 1 ≡ j + suc (suc n) = omega arith in
    let more' : lower_end law (j + suc n) + width_of law (j + suc n) ≡ lower_end law (j + suc (suc n)) = more ∙ ap (lower_end law) z in
    omega (arith, before, more')

-- ---- the one that holds

pub bounds : (law : Law) (y k : ℕ) → holds law y k ≡ true → (lower_end law k ≤ y) × (y < lower_end law (k + 1))
bounds law y k e =
    let parts = and_parts (nat_le (lower_end law k) y) (nat_lt y (lower_end law (k + 1))) e in
    (grind (arith, nat_tests, parts.0), grind (arith, nat_tests, parts.1))

pub holds_between : (law : Law) (y k : ℕ) → lower_end law k ≤ y → y < lower_end law (k + 1) → holds law y k ≡ true
holds_between law y k low high = grind (arith, nat_tests)

no_other_below : (law : Law) (y j k : ℕ) → j < k → k < INTERVALS → holds law y k ≡ true → holds law y j ≡ false
no_other_below law y j k less b here =
    let low = (bounds law y k here).0 in
    let d = k - suc j in
    let z : j + suc d ≡ k = omega arith in
    let order : lower_end law j + width_of law j ≤ lower_end law k = subst (λ n. lower_end law j + width_of law j ≤ lower_end law n) z (in_order law j d (omega arith)) in
    let high : lower_end law j + width_of law j ≤ y = omega (arith, order, low) in
    let e = next law j (omega arith) in
    grind (arith, nat_tests, high, e)

pub interval_is : (law : Law) (y k : ℕ) → k < INTERVALS → holds law y k ≡ true → interval_of law y ≡ k
unfolding interval_of
interval_is law y k b here =
    let found = find_first (holds law y) 0 INTERVALS k (omega arith) (omega arith) here (λ j q s. no_other_below law y j k s b here) in
    ap (λ o. unwrap_or o 0) found

-- some interval holds it
pub record IsHeld (law : Law) (y n : ℕ) : Type 0 where
  pub number : ℕ
  pub within : number < n
  pub here : holds law y number ≡ true

pub held_below : (law : Law) (y n : ℕ) → n ≤ INTERVALS → lower_end law 0 ≤ y → y < lower_end law n → IsHeld law y n
held_below law y zero b low high = absurd (omega (arith, low, high))
held_below law y (suc n) b low high = elim (cases_lt y (lower_end law n)) [
  | inl less ↦ let held = held_below law y n (omega arith) low less in record { number = held.number; within = omega arith; here = held.here }
  | inr more ↦
      let z : n + 1 ≡ suc n = omega arith in
      record { number = n; within = omega arith; here = holds_between law y n more (rw z high) }
]

-- step m of segment e holds what lies in it
pub holds_step : (law : Law) (y e m k : ℕ) → k < INTERVALS → m < 16 → k ≡ e * 16 + m → step_start law e m ≤ y
    → y < step_start law e m + step_width law e → holds law y k ≡ true
holds_step law y e m k within b same low high =
    let segment : k / 16 ≡ e = ap (λ n. n / 16) same ∙ div-mul-add e 16 m b in
    let step : k % 16 ≡ m = ap (λ n. n % 16) same ∙ mod-mul-add e 16 m b in
    let start : lower_end law k ≡ step_start law e m = rw (segment, step) refl in
    let width : width_of law k ≡ step_width law e = ap (step_width law) segment in
    let e' = next law k within in
    holds_between law y k (rw start low) (omega (arith, e', start, width, high))

-- the middle of an interval is half its width on from where it begins
pub middle_is : (law : Law) (k : ℕ) → k < INTERVALS → middle_of law k ≡ lower_end law k + width_of law k / 2
middle_is law k b = let e = next law k b in omega (arith, e)
