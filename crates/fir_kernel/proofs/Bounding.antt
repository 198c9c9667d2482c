-- The plain sums of a bounded block are halves of the sums in order.
use Rattle.std.proofs.Common.{◌≡◌, ℕ, ℤ, pos, ◌+◌, ◌-◌, ◌<◌, ◌≤◌, ◌^◌, unsigned_abs, List, length, take, drop, replicate, w32, inl, inr, refl, ap, ◌∙◌, arith, get_or-take, length-take}
use Rattle.std.specs.Int.{int_wrap}
use Rattle.std.proofs.lemmas.Bool.{cases_lt}
use Rattle.std.proofs.lemmas.List.{get_or_past, get_or-replicate, length-replicate}
use Rattle.basic_op.specs.Halves.{half_of}
use Rattle.ialg.specs.History.{word_at}
use Rattle.fir_kernel.specs.Sums.{l_mac_sum}
use Rattle.fir_kernel.specs.Bounded.{product_sum, IsBounded}
use Rattle.fir_kernel.specs.Windows.{wrapped_sum}
use Rattle.fir_kernel.proofs.Parts.{part_at}
use Rattle.fir_kernel.proofs.Sums.{product_sum-same, product_sum-silent, product_sum-turned, wrapped_sum_is}

pub zeros_at : (n j : ℕ) → word_at (replicate n (pos 0)) j ≡ pos 0
zeros_at n j = elim (cases_lt j n) [
  | inl b ↦ get_or-replicate n j (pos 0) (pos 0) b
  | inr b ↦ let e : length (replicate n (pos 0)) ≡ n = length-replicate n (pos 0) in get_or_past (replicate n (pos 0)) j (pos 0) (omega arith)
]

-- a 0 in front words is one of the words
front_silent : (words : List ℤ) (m j : ℕ) → word_at words j ≡ pos 0 → word_at (take m words) j ≡ pos 0
front_silent words m j e = elim (cases_lt j m) [
  | inl b ↦ get_or-take m words j (pos 0) b ∙ e
  | inr b ↦
      let short : length (take m words) ≤ j = simp length-take (omega arith) in
      get_or_past (take m words) j (pos 0) short
]

module _ (cs line : List ℤ) (n : ℕ) (bounded : IsBounded cs (take (n + length cs) line)) where
  -- half of the sum of an output
  abbrev pub IsHalfAt : ℕ → ℤ → Type 0
  IsHalfAt i s = (unsigned_abs s < 2 ^ 30) × (s ≡ half_of (l_mac_sum (word_at cs) (λ k. word_at line (length cs - 1 + i - k)) (length cs)))

  pub half_is : (i : ℕ) (s : ℤ) → 1 ≤ length cs → i ≤ n
      → s ≡ int_wrap w32 (product_sum (word_at cs) (λ k. word_at line (length cs - 1 + i - k)) (length cs)) → IsHalfAt i s
  half_is i s some b sum =
      let x : ℕ → ℤ = λ k. word_at line (length cs - 1 + i - k) in
      let quiet : (k : ℕ) → k < length cs → unsigned_abs (x k) ≤ bounded.0 =
      λ k h.
      let a : length cs - 1 + i - k < n + length cs = omega arith in
      let same : word_at (take (n + length cs) line) (length cs - 1 + i - k) ≡ x k = get_or-take (n + length cs) line (length cs - 1 + i - k) (pos 0) a in
      rw same at (bounded.1 (length cs - 1 + i - k)) in
      wrapped_sum_is (word_at cs) x bounded.0 (length cs) s quiet bounded.2 sum

  -- by the coefficients in order, and the window that ends with the newest sample
  pub half_turned : (i : ℕ) (s : ℤ) → 1 ≤ length cs → i ≤ n
      → s ≡ int_wrap w32 (product_sum (word_at cs) (λ k. word_at (take (i + length cs - i) (drop i line)) (length cs - 1 - k)) (length cs)) → IsHalfAt i s
  half_turned i s some b e =
      half_is i s some b
      (e ∙ ap (int_wrap w32) (product_sum-same (word_at cs) (word_at cs) _ _ (length cs) (λ k h. refl)
      (λ k h. let a : i + (length cs - 1 - k) ≡ length cs - 1 + i - k = omega arith in
      part_at line i (i + length cs) (length cs - 1 - k) (omega arith) ∙ ap (word_at line) a)))

  -- by taps, which are the coefficients turned, with silent ones behind them
  pub half_by_taps : (taps : List ℤ) (m : ℕ) → 1 ≤ length cs → length cs ≤ m
      → ((j k : ℕ) → j + k + 1 ≡ length cs → word_at taps j ≡ word_at cs k)
      → ((j : ℕ) → length cs ≤ j → word_at taps j ≡ pos 0)
      → (i : ℕ) (s : ℤ) → i ≤ n → s ≡ int_wrap w32 (product_sum (word_at (take m taps)) (λ j. word_at line (i + j)) m) → IsHalfAt i s
  half_by_taps taps m some few reversed rest i s b e =
      let x : ℕ → ℤ = λ k. word_at line (length cs - 1 + i - k) in
      let c' : ℕ → ℤ = word_at (take m taps) in
      let x' : ℕ → ℤ = λ j. word_at line (i + j) in
      let whole : m ≡ length cs + (m - length cs) = omega arith in
      let short : product_sum c' x' (length cs + (m - length cs)) ≡ product_sum c' x' (length cs) =
      product_sum-silent c' x' (length cs) (m - length cs) (λ j h. front_silent taps m j (rest j h)) in
      let turned : product_sum c' x' (length cs) ≡ product_sum (word_at cs) x (length cs) =
      product_sum-turned (word_at cs) x c' x' (length cs) (λ j k h. let a : j < m = omega arith in get_or-take m taps j (pos 0) a ∙ reversed j k h)
      (λ j k h. let a : i + j ≡ length cs - 1 + i - k = omega arith in ap (word_at line) a) in
      half_is i s some b (e ∙ ap (λ d. int_wrap w32 (product_sum c' x' d)) whole ∙ ap (int_wrap w32) (short ∙ turned))

  -- so is the sum of a window
  pub half_of_window : (taps : List ℤ) (m : ℕ) → 1 ≤ length cs → (length cs ≤ m) × (m ≤ length taps)
      → ((j k : ℕ) → j + k + 1 ≡ length cs → word_at taps j ≡ word_at cs k)
      → ((j : ℕ) → length cs ≤ j → word_at taps j ≡ pos 0)
      → (i : ℕ) → i ≤ n → IsHalfAt i (wrapped_sum (take m taps) line i)
  half_of_window taps m some size reversed rest i last =
      let front : length (take m taps) ≡ m = simp length-take (omega arith) in
      half_by_taps taps m some size.0 reversed rest i (wrapped_sum (take m taps) line i) last
      (ap (λ d. int_wrap w32 (product_sum (word_at (take m taps)) (λ j. word_at line (i + j)) d)) front)
