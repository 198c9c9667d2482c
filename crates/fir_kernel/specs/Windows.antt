-- Sums of windows in vectors of eight lanes and of four, and rounded: private clauses alone need this.
use Rattle.std.specs.Prelude.{ℕ, ℤ, List, ◌≡◌, ◌<◌, ◌≤◌, ◌+◌, ◌*◌, ◌/◌, ◌^◌, ◌+ℤ◌, length, unsigned_abs, FitsSigned}
use Rattle.std.specs.Int.{int_wrap, w32}
use Rattle.basic_op.specs.Halves.{half_of}
use Rattle.basic_op.specs.Operators.{round_of}
use Rattle.ialg.specs.History.{word_at}
use Rattle.fir_kernel.specs.Bounded.{product_sum}

-- four lanes, which come to the sum, to 32 bits
pub record IsSplit (lanes : List ℤ) (sum : ℤ) : Type 0 where
  pub four : length lanes ≡ 4
  pub fit : (k : ℕ) → FitsSigned w32 (word_at lanes k)
  pub total : int_wrap w32 (word_at lanes 0 +ℤ word_at lanes 1 +ℤ word_at lanes 2 +ℤ word_at lanes 3) ≡ int_wrap w32 sum

-- eight lanes, which come to the sum, to 32 bits
pub record IsSpread (lanes : List ℤ) (sum : ℤ) : Type 0 where
  pub eight : length lanes ≡ 8
  pub fit : (k : ℕ) → FitsSigned w32 (word_at lanes k)
  pub total : int_wrap w32
      ((word_at lanes 0 +ℤ word_at lanes 1 +ℤ word_at lanes 2 +ℤ word_at lanes 3) +ℤ (word_at lanes 4 +ℤ word_at lanes 5 +ℤ word_at lanes 6 +ℤ word_at lanes 7))
      ≡ int_wrap w32 sum

-- the sum of the products of n taps with the window that begins at word `from` of the line
abbrev pub window_sum : List ℤ → List ℤ → ℕ → ℕ → ℤ
window_sum taps line from n = product_sum (word_at taps) (λ j. word_at line (from + j)) n

-- the sum of the products of all taps with a window, to 32 bits
abbrev pub wrapped_sum : List ℤ → List ℤ → ℕ → ℤ
wrapped_sum taps line from = int_wrap w32 (window_sum taps line from (length taps))

-- the sums of n windows, at the words first, first + step, .. of the line, are within the halves of 32 bits
abbrev pub HaveHalfSums : List ℤ → List ℤ → ℕ → ℕ → ℕ → Type 0
HaveHalfSums taps line first step n = (i : ℕ) → i < n → unsigned_abs (wrapped_sum taps line (first + step * i)) ≤ 2 ^ 30

-- the first n outputs are the sums of n windows, each rounded: that of half of v to what v is rounded to
pub record AreRounded (taps line : List ℤ) (first step n : ℕ) (old new : List ℤ) : Type 0 where
  pub size : length new ≡ length old
  pub rounded : (i : ℕ) (v : ℤ) → i < n → wrapped_sum taps line (first + step * i) ≡ half_of v → word_at new i ≡ round_of v

-- how many of n outputs are made by whole groups of eight
abbrev pub in_groups : ℕ → ℕ
in_groups n = 8 * (n / 8)

-- so are eight outputs from place `at` on; those before stay
pub record AreRoundedFrom (taps line : List ℤ) (from step at : ℕ) (old new : List ℤ) : Type 0 where
  pub size : length new ≡ length old
  pub before : (k : ℕ) → k < at → word_at new k ≡ word_at old k
  pub rounded : (q : ℕ) (v : ℤ) → q < 8 → wrapped_sum taps line (from + step * q) ≡ half_of v → word_at new (at + q) ≡ round_of v
