-- What one more sample makes of a frame.
use Rattle.std.proofs.Common.{◌≡◌, ℕ, ℤ, ◌+◌, ◌%◌, ◌<◌, ◌≤◌, ◌==◌, true, false, inl, inr, List, [], ◌∷◌, ◌++◌, length, take, sym, ap, subst, ◌∙◌, arith, append-nil}
use Rattle.std.proofs.Math.Nat.{suc-mod, mod_self, mod-eq_of_lt, zero-mod}
use Rattle.std.proofs.lemmas.Nat.{mod_below}
use Rattle.std.proofs.lemmas.Bool.{cases_eq}
use Rattle.std.proofs.lemmas.Bool.Decides.{nat_tests}
use Rattle.ialg.specs.History.{History, Sample, samples_since_reset, samples_in_frame}
use Rattle.kind_parts.specs.Frames.{frame_so_far, gives_by_frame}

same_test : (a b : ℕ) → a ≡ b → (a == b) ≡ true
same_test a b e = grind (arith, nat_tests)

other_test : (a b : ℕ) → (a ≡ b → ⊥) → (a == b) ≡ false
other_test a b ne = grind (arith, nat_tests)

-- a state is that of the frame so far, by what it has of so many samples, the newest first
abbrev pub IsFrame : {S : Type 0} → (ℕ → List ℤ → S → Type 0) → ℕ → History → S → Type 0
IsFrame Has n h s = Has (samples_in_frame n h) (frame_so_far n h) s

-- what becomes of a state `grown` of k samples xs: a full frame of n is told and the next begins, and another goes on
pub record IsFinished {S : Type 0} (n : ℕ) (told : List ℤ → ℤ) (empty : S) (k : ℕ) (xs : List ℤ) (grown new : S) (ys zs : List ℤ) : Type 0 where
  pub full : k ≡ n → (new ≡ empty) × (zs ≡ ys ++ told xs ∷ [])
  pub unfinished : (k ≡ n → ⊥) → (new ≡ grown) × (zs ≡ ys)

-- a frame that goes on is not full
pub unfinished_frame : (n : ℕ) (h : History) → 1 ≤ n → samples_in_frame n h < n
unfinished_frame n h some = mod_below (length (samples_since_reset h)) n some

-- before the first sample
pub no_samples : (n : ℕ) → samples_in_frame n [] ≡ 0
no_samples n = zero-mod n

module _ (S : Type 0) (Has : ℕ → List ℤ → S → Type 0) (n : ℕ) (told : List ℤ → ℤ) (empty : S) (begins : (xs : List ℤ) → Has 0 (take 0 xs) empty)
    (some : 1 ≤ n) (h : History) (x : ℤ) where
  next_count : samples_in_frame n (Sample x ∷ h) ≡ (samples_in_frame n h + 1) % n
  next_count = suc-mod (length (samples_since_reset h)) n ∙ ap (λ k. k % n) (omega arith)

  -- the frame behind the sample x, and what the sample gives
  pub frame_goes_on : (grown new : S) (ys zs : List ℤ)
      → Has (samples_in_frame n h + 1) (take (samples_in_frame n h + 1) (samples_since_reset (Sample x ∷ h))) grown
      → IsFinished n told empty (samples_in_frame n h + 1) (take (samples_in_frame n h + 1) (samples_since_reset (Sample x ∷ h))) grown new ys zs
      → IsFrame Has n (Sample x ∷ h) new × (ys ++ gives_by_frame n told (Sample x ∷ h) ≡ zs)
  frame_goes_on grown new ys zs has ends =
      let k = samples_in_frame n h + 1 in
      let b = unfinished_frame n h some in
      let since = samples_since_reset (Sample x ∷ h) in
      let P : ℕ → S → Type 0 = λ j s. Has j (take j since) s in
      elim (cases_eq k n) [
        | inl e ↦ (
            let f = ends.full e in
            let count : samples_in_frame n (Sample x ∷ h) ≡ 0 = next_count ∙ ap (λ j. j % n) e ∙ mod_self n in
            let begun : P 0 new = subst (P 0) (sym f.0) (begins since) in (
              subst (λ j. P j new) (sym count) begun,
              rw (same_test k n e) (sym f.1),
            )
            )
        | inr ne ↦ (
            let f = ends.unfinished ne in
            let less : k < n = omega arith in
            let count : samples_in_frame n (Sample x ∷ h) ≡ k = next_count ∙ mod-eq_of_lt less in
            let on : P k new = subst (P k) (sym f.0) has in (
              subst (λ j. P j new) (sym count) on,
              rw (other_test k n ne) (append-nil ys ∙ sym f.1),
            )
            )
      ]
