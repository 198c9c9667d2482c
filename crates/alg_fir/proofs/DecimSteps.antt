-- A block goes on with the decimator's equation.
use Rattle.std.proofs.Common.{◌≡◌, ℕ, zero, suc, ℤ, pos, negsuc, ◌+◌, ◌-◌, ◌*◌, ◌/◌, ◌%◌, ◌<◌, ◌≤◌, ◌==◌, ◌&&◌, nat_le, int_le, inl, inr, Bool, true, false, IsTrue, List, [], ◌∷◌, ◌++◌, length, take, unsigned_abs, refl, sym, ap, ◌∙◌, arith, append_assoc, append-nil}
use Rattle.std.proofs.lemmas.Bool.{cases_eq, and_parts}
use Rattle.std.proofs.lemmas.Bool.Decides.{nat_tests}
use Rattle.std.proofs.lemmas.Nat.{mod_below, le-div}
use Rattle.std.proofs.Math.Nat.{suc-mod, mod-eq_of_lt, div-eq_of_lt, div-eq_of_eq-mul_left, div-add-mod, div-mul-le_self, add-mul-div_left}
use Rattle.std.proofs.Math.Seq.{take-suc, take-length}
use Rattle.ialg.specs.History.{History, Sample, samples_since_reset, samples_in_frame, with_samples, word_at, outputs_by}
use Rattle.ialg.proofs.Histories.{with_samples-take, with_samples-whole}
use Rattle.fir_kernel.specs.declared.TheConstants.{MOST_COEFFICIENTS}
use Rattle.alg_fir.specs.declared.TheConstants.{MOST_FACTOR}
use Rattle.alg_fir.specs.Equation.{fir_output}
use Rattle.alg_fir.specs.Keeps.{AreOutputs}
use Rattle.alg_fir.specs.Decimation.{factor, decim_gives}
use Rattle.alg_fir.specs.DecimKeeps.{taps_of, coefficients_of}
use Rattle.alg_fir.specs.DecimMeaning.{decim_takes}

-- how many samples there are since the last output
abbrev pub phase : List ℤ → History → ℕ
phase p h = samples_in_frame (factor p) h

-- which parameters are taken
pub record IsTaken (p : List ℤ) : Type 0 where
  pub some : 1 ≤ taps_of p
  pub few : taps_of p ≤ MOST_COEFFICIENTS
  pub size : length p ≡ taps_of p + 1
  pub least : 1 ≤ factor p
  pub most : factor p ≤ 16
  pub word : word_at p 0 ≡ pos (factor p)

pub record IsFactor (z : ℤ) : Type 0 where
  pub least : 1 ≤ unsigned_abs z
  pub most : unsigned_abs z ≤ 16
  pub natural : z ≡ pos (unsigned_abs z)

factor_is : (z : ℤ) → (int_le (pos 1) z && int_le z MOST_FACTOR) ≡ true → IsFactor z
factor_is (pos n) e =
    let b : (1 ≤ n) × (n ≤ 16) = grind (arith, nat_tests, e) in
    record { least = b.0; most = b.1; natural = refl }
factor_is (negsuc n) e = cc

sizes_are : (n : ℕ) → (nat_le 2 n && nat_le (n - 1) MOST_COEFFICIENTS) ≡ true → (2 ≤ n) × (n - 1 ≤ MOST_COEFFICIENTS)
sizes_are n e = grind (arith, nat_tests)

pub is_taken : (p : List ℤ) → IsTrue (decim_takes p) → IsTaken p
is_taken p t =
    let g = and_parts (nat_le 2 (length p) && nat_le (taps_of p) MOST_COEFFICIENTS) (int_le (pos 1) (word_at p 0) && int_le (word_at p 0) MOST_FACTOR) t in
    let s = sizes_are (length p) g.0 in
    let long = s.0 in
    let f = factor_is (word_at p 0) g.1 in
    record { some = omega arith; few = s.1; size = omega arith; least = f.least; most = f.most; word = f.natural }

-- the quotient of the next number
next_quotient : (a m : ℕ) → 1 ≤ m → suc a / m ≡ suc (a % m) / m + a / m
next_quotient a m b =
    let d : m * (a / m) + a % m ≡ a = div-add-mod a m in
    let s : suc a ≡ suc (a % m) + m * (a / m) = omega arith in
    ap (λ n. n / m) s ∙ add-mul-div_left (suc (a % m)) (a / m) b

pub quotients : (a b m : ℕ) → 1 ≤ m → a ≤ b → a / m ≤ b / m
quotients a b m some le =
    let s : a / m * m ≤ a = div-mul-le_self a m in
    le-div (a / m) b m some (omega arith)

same_test : (a b : ℕ) → a ≡ b → (a == b) ≡ true
same_test a b e = grind (arith, nat_tests)

other_test : (a b : ℕ) → (a ≡ b → ⊥) → (a == b) ≡ false
other_test a b ne = grind (arith, nat_tests)

gives_output : (p : List ℤ) (h : History) (x : ℤ) → phase p h + 1 ≡ factor p
    → decim_gives p (Sample x ∷ h) ≡ fir_output (coefficients_of p) (Sample x ∷ h) ∷ []
gives_output p h x e = rw (same_test (phase p h + 1) (factor p) e) refl

gives_none : (p : List ℤ) (h : History) (x : ℤ) → (phase p h + 1 ≡ factor p → ⊥) → decim_gives p (Sample x ∷ h) ≡ []
gives_none p h x ne = rw (other_test (phase p h + 1) (factor p) ne) refl

-- the history up to the first i samples of xs
abbrev upto : History → List ℤ → ℕ → History
upto h xs i = with_samples h (take i xs)

module _ (p : List ℤ) (taken : IsTaken p) (h : History) (xs : List ℤ) where
  below : phase p h < factor p
  below = mod_below (length (samples_since_reset h)) (factor p) taken.least

  phase_at : (i : ℕ) → i ≤ length xs → phase p (upto h xs i) ≡ (phase p h + i) % factor p
  phase_at zero b =
      let z : phase p h + 0 ≡ phase p h = omega arith in
      sym (ap (λ n. n % factor p) z ∙ mod-eq_of_lt below)
  phase_at (suc i) b =
      let n = length (samples_since_reset (upto h xs i)) in
      let more : suc (phase p h + i) ≡ phase p h + suc i = omega arith in
      rw (with_samples-take h xs i (omega arith))
      (suc-mod n (factor p) ∙ ap (λ r. suc r % factor p) (phase_at i (omega arith)) ∙ sym (suc-mod (phase p h + i) (factor p)) ∙ ap (λ k. k % factor p) more)

  pub phase_after : phase p (with_samples h xs) ≡ (phase p h + length xs) % factor p
  phase_after = ap (phase p) (sym (with_samples-whole h xs)) ∙ phase_at (length xs) (omega arith)

  module _ (ys : List ℤ) (first : ℕ) (at : first + phase p h + 1 ≡ factor p)
      (many : length ys ≡ (phase p h + length xs) / factor p)
      (outputs : AreOutputs (coefficients_of p) h xs first (factor p) ys) where
    -- one more sample, with an output
    given : (i : ℕ) → i < length xs → phase p (upto h xs i) + 1 ≡ factor p
        → take ((phase p h + i) / factor p) ys ++ decim_gives p (Sample (word_at xs i) ∷ upto h xs i) ≡ take ((phase p h + suc i) / factor p) ys
    given i b e =
        let q = (phase p h + i) / factor p in
        let r : phase p (upto h xs i) ≡ (phase p h + i) % factor p = phase_at i (omega arith) in
        let full : suc ((phase p h + i) % factor p) ≡ 1 * factor p = omega arith in
        let one : suc ((phase p h + i) % factor p) / factor p ≡ 1 = div-eq_of_eq-mul_left taken.least full in
        let more : suc (phase p h + i) ≡ phase p h + suc i = omega arith in
        let turn : suc (phase p h + i) / factor p ≡ suc ((phase p h + i) % factor p) / factor p + q = next_quotient (phase p h + i) (factor p) taken.least in
        let next : (phase p h + suc i) / factor p ≡ suc q = ap (λ n. n / factor p) (sym more) ∙ turn ∙ (omega arith) in
        let least : (phase p h + suc i) / factor p ≤ (phase p h + length xs) / factor p = quotients (phase p h + suc i) (phase p h + length xs) (factor p) taken.least (omega arith) in
        let inside : q < length ys = omega arith in
        let d : factor p * q + (phase p h + i) % factor p ≡ phase p h + i = div-add-mod (phase p h + i) (factor p) in
        let place : suc (first + factor p * q) ≡ suc i = omega arith in
        let value : fir_output (coefficients_of p) (Sample (word_at xs i) ∷ upto h xs i) ≡ word_at ys q =
        sym (outputs q inside ∙ ap (λ n. fir_output (coefficients_of p) (upto h xs n)) place ∙ ap (fir_output (coefficients_of p)) (with_samples-take h xs i b)) in
        ap (λ g. take q ys ++ g) (gives_output p (upto h xs i) (word_at xs i) e ∙ ap (λ v. v ∷ []) value) ∙ sym (take-suc ys q (pos 0) inside)
        ∙ ap (λ n. take n ys) (sym next)

    -- one more sample, without
    held : (i : ℕ) → i < length xs → (phase p (upto h xs i) + 1 ≡ factor p → ⊥)
        → take ((phase p h + i) / factor p) ys ++ decim_gives p (Sample (word_at xs i) ∷ upto h xs i) ≡ take ((phase p h + suc i) / factor p) ys
    held i b ne =
        let q = (phase p h + i) / factor p in
        let r : phase p (upto h xs i) ≡ (phase p h + i) % factor p = phase_at i (omega arith) in
        let small : (phase p h + i) % factor p < factor p = mod_below (phase p h + i) (factor p) taken.least in
        let less : suc ((phase p h + i) % factor p) < factor p = omega arith in
        let none : suc ((phase p h + i) % factor p) / factor p ≡ 0 = div-eq_of_lt less in
        let more : suc (phase p h + i) ≡ phase p h + suc i = omega arith in
        let turn : suc (phase p h + i) / factor p ≡ suc ((phase p h + i) % factor p) / factor p + q = next_quotient (phase p h + i) (factor p) taken.least in
        let next : (phase p h + suc i) / factor p ≡ q = ap (λ n. n / factor p) (sym more) ∙ turn ∙ (omega arith) in
        ap (λ g. take q ys ++ g) (gives_none p (upto h xs i) (word_at xs i) ne) ∙ append-nil (take q ys) ∙ ap (λ n. take n ys) (sym next)

    outputs_at : (i : ℕ) → i ≤ length xs
        → outputs_by (decim_gives p) (upto h xs i) ≡ outputs_by (decim_gives p) h ++ take ((phase p h + i) / factor p) ys
    outputs_at zero b =
        let b = below in
        let small : phase p h + 0 < factor p = omega arith in
        let none : (phase p h + 0) / factor p ≡ 0 = div-eq_of_lt small in
        rw none (sym (append-nil (outputs_by (decim_gives p) h)))
    outputs_at (suc i) b =
        let hi = upto h xs i in
        let x = word_at xs i in
        let before = outputs_at i (omega arith) in
        let step : take ((phase p h + i) / factor p) ys ++ decim_gives p (Sample x ∷ hi) ≡ take ((phase p h + suc i) / factor p) ys =
        elim (cases_eq (phase p hi + 1) (factor p)) [ inl e ↦ given i (omega arith) e | inr ne ↦ held i (omega arith) ne ] in
        rw (with_samples-take h xs i (omega arith))
        (ap (λ o. o ++ decim_gives p (Sample x ∷ hi)) before
        ∙ append_assoc (outputs_by (decim_gives p) h) (take ((phase p h + i) / factor p) ys) (decim_gives p (Sample x ∷ hi))
        ∙ ap (λ t. outputs_by (decim_gives p) h ++ t) step)

    pub block_outputs : outputs_by (decim_gives p) (with_samples h xs) ≡ outputs_by (decim_gives p) h ++ ys
    block_outputs =
        let all : take ((phase p h + length xs) / factor p) ys ≡ ys = rw (← many) (take-length ys) in
        ap (outputs_by (decim_gives p)) (sym (with_samples-whole h xs)) ∙ outputs_at (length xs) (omega arith)
        ∙ ap (λ t. outputs_by (decim_gives p) h ++ t) all
