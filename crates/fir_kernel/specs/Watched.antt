-- Sums by halves in lanes for every other output, and how far they stay from the limits: private clauses alone need this.
use Rattle.std.specs.Prelude.{ℕ, ℤ, List, ◌≡◌, ◌<◌, ◌+◌, ◌*◌, ◌/◌, ◌%◌, ◌^◌, length, get_or, unsigned_abs, FitsSigned}
use Rattle.std.specs.Int.{int_wrap, w32}
use Rattle.ialg.specs.History.{word_at}
use Rattle.fir_kernel.specs.Bounded.{magnitude_sum, NoneLouder}
use Rattle.fir_kernel.specs.HalfLanes.{taps_sum, IsHalved}

-- four lanes, each half of the sum of the first `taps` products, for the outputs at the samples first, first + 2, ..
abbrev pub HaveEvery : List ℤ → List ℤ → ℕ → ℕ → List ℤ → Type 0
HaveEvery cs line first taps lanes = IsHalved lanes (λ k. taps_sum cs line taps (first + 2 * k))

-- four lanes, each its sum to 32 bits
pub record AreWrapped (lanes : List ℤ) (sums : ℕ → ℤ) : Type 0 where
  pub four : length lanes ≡ 4
  pub fit : (k : ℕ) → FitsSigned w32 (word_at lanes k)
  pub wrapped : (k : ℕ) → k < 4 → word_at lanes k ≡ int_wrap w32 (sums k)

-- the magnitudes of four lanes are below the room
abbrev pub AreBelow : ℕ → List ℤ → Type 0
AreBelow room lanes = (k : ℕ) → k < 4 → unsigned_abs (word_at lanes k) < room

-- how much the products of the eight taps from `tap` on come to, with samples of which none is louder
abbrev pub reach_of : List ℤ → ℕ → ℕ → ℕ
reach_of cs tap loudest = magnitude_sum (λ j. word_at cs (tap + j)) 8 * loudest

-- with those products, whatever its samples, what is below the room stays within the halves of 32 bits
abbrev pub IsRoom : List ℤ → List ℤ → ℕ → ℕ → Type 0
IsRoom cs line tap room = (loudest : ℕ) × NoneLouder line loudest × ((n : ℕ) → n < room → n + reach_of cs tap loudest < 2 ^ 30)

-- so it is of each group of eight taps: those that make no whole group come first
abbrev pub AreRooms : List ℤ → List ℤ → List ℕ → Type 0
AreRooms cs line rooms = (g : ℕ) → g < length cs / 8 → IsRoom cs line (length cs % 8 + 8 * g) (get_or rooms g 0)

-- four lanes stay within the halves of 32 bits with those products
abbrev pub StayWithin : List ℤ → List ℤ → ℕ → List ℤ → Type 0
StayWithin cs line tap lanes =
    (loudest : ℕ) × NoneLouder line loudest × ((k : ℕ) → k < 4 → unsigned_abs (word_at lanes k) + reach_of cs tap loudest < 2 ^ 30)
