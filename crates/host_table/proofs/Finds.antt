-- The least number that passes a test.
use Rattle.std.proofs.Common.{◌≡◌, ℕ, zero, suc, ◌+◌, ◌-◌, ◌<◌, ◌≤◌, inl, inr, Bool, true, false, Some, None, refl, sym, ◌∙◌, ap, arith}
use Rattle.std.specs.Prelude.{find}
use Rattle.std.specs.List.{range_with_len}
use Rattle.std.proofs.lemmas.Bool.{cases_Bool, cases_eq}
use Rattle.std.proofs.lemmas.Option.{none-some, same_Some}

-- the least of these numbers that passes
pub record IsFirst (p : ℕ → Bool) (from count r : ℕ) : Type 0 where
  pub passes : p r ≡ true
  pub low : from ≤ r
  pub high : r < from + count
  pub before : (j : ℕ) → from ≤ j → j < r → p j ≡ false

pub find_tells : (p : ℕ → Bool) (from count r : ℕ) → find p (range_with_len from count) ≡ Some r → IsFirst p from count r
find_tells p from zero r found = absurd (none-some r found)
find_tells p from (suc count) r found =
    elim (cases_Bool (p from)) [
      | inl e ↦
          let same : from ≡ r = same_Some from r (rw e at found) in
          record { passes = ap p (sym same) ∙ e; low = omega (arith, same); high = omega (arith, same); before = λ j low less. absurd (omega (arith, same, low, less)) }
      | inr e ↦
          let later = find_tells p (from + 1) count r (rw e at found) in
          record {
            passes = later.passes;
            low = omega (arith, later.low);
            high = omega (arith, later.high);
            before = λ j low less.
                elim (cases_eq from j) [
                  | inl same ↦ ap p (sym same) ∙ e
                  | inr other ↦ later.before j (omega (arith, low, other)) less
                ];
          }
    ]

pub find_first : (p : ℕ → Bool) (from count r : ℕ) → IsFirst p from count r → find p (range_with_len from count) ≡ Some r
find_first p from zero r first = absurd (omega (arith, first.low, first.high))
find_first p from (suc count) r first =
    elim (cases_eq from r) [
      | inl e ↦
          let test : p from ≡ true = ap p e ∙ first.passes in
          rw test (ap Some e)
      | inr other ↦
          let test : p from ≡ false = first.before from (omega arith) (omega (arith, first.low, other)) in
          rw test (find_first p (from + 1) count r (record {
            passes = first.passes;
            low = omega (arith, first.low, other);
            high = omega (arith, first.high);
            before = λ j low less. first.before j (omega (arith, low)) less;
          }))
    ]

pub find_none : (p : ℕ → Bool) (from count : ℕ) → find p (range_with_len from count) ≡ None → (j : ℕ) → from ≤ j → j < from + count → p j ≡ false
find_none p from zero none j low high = absurd (omega (arith, low, high))
find_none p from (suc count) none j low high =
    elim (cases_Bool (p from)) [
      | inl e ↦ absurd (none-some from (sym (rw e at none)))
      | inr e ↦
          elim (cases_eq from j) [
            | inl same ↦ ap p (sym same) ∙ e
            | inr other ↦ find_none p (from + 1) count (rw e at none) j (omega (arith, low, other)) (omega (arith, high))
          ]
    ]

pub find_nothing : (p : ℕ → Bool) (from count : ℕ) → ((j : ℕ) → from ≤ j → j < from + count → p j ≡ false) → find p (range_with_len from count) ≡ None
find_nothing p from zero fails = refl
find_nothing p from (suc count) fails =
    let first : p from ≡ false = fails from (omega arith) (omega arith) in
    rw first (find_nothing p (from + 1) count (λ j low high. fails j (omega (arith, low)) (omega (arith, high))))

pub find_same : (p q : ℕ → Bool) (from count : ℕ) → ((j : ℕ) → from ≤ j → j < from + count → p j ≡ q j) → find p (range_with_len from count) ≡ find q (range_with_len from count)
find_same p q from zero same = refl
find_same p q from (suc count) same =
    let first : p from ≡ q from = same from (omega arith) (omega arith) in
    let rest : find p (range_with_len (from + 1) count) ≡ find q (range_with_len (from + 1) count) =
    find_same p q (from + 1) count (λ j low high. same j (omega (arith, low)) (omega (arith, high))) in
    rw (first, rest) refl

-- one step of the search, as a loop makes it
pub find_step : (p : ℕ → Bool) (j n : ℕ) → j < n → p j ≡ false → find p (range_with_len j (n - j)) ≡ find p (range_with_len (j + 1) (n - (j + 1)))
find_step p j n less fails = let more : n - j ≡ suc (n - (j + 1)) = omega (arith, less) in rw (more, fails) refl

pub find_hit : (p : ℕ → Bool) (j n : ℕ) → j < n → p j ≡ true → find p (range_with_len j (n - j)) ≡ Some j
find_hit p j n less passes = let more : n - j ≡ suc (n - (j + 1)) = omega (arith, less) in rw (more, passes) refl

pub find_end : (p : ℕ → Bool) (j n : ℕ) → n ≤ j → find p (range_with_len j (n - j)) ≡ None
find_end p j n past = let none : n - j ≡ 0 = omega (arith, past) in rw none refl
