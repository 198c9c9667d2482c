-- Sums by halves in vectors of four lanes: private clauses alone need this.
use Rattle.std.specs.Prelude.{ℕ, ℤ, List, ◌≡◌, ◌<◌, ◌+◌, ◌-◌, length}
use Rattle.basic_op.specs.Halves.{half_of}
use Rattle.ialg.specs.History.{word_at}
use Rattle.fir_kernel.specs.Sums.{l_mac_sum}
use Rattle.fir_kernel.specs.Halves.{AreHalves}

-- four lanes, each half of its sum
pub record IsHalved (lanes : List ℤ) (sums : ℕ → ℤ) : Type 0 where
  pub four : length lanes ≡ 4
  pub within : AreHalves lanes
  pub halves : (k : ℕ) → k < 4 → word_at lanes k ≡ half_of (sums k)

-- the sum of the first `taps` products, for the output at the sample i of the block
abbrev pub taps_sum : List ℤ → List ℤ → ℕ → ℕ → ℤ
taps_sum cs line taps i = l_mac_sum (word_at cs) (λ k. word_at line (length cs - 1 + i - k)) taps

-- four lanes, each half of the sum of the first `taps` products, for the outputs at the samples first, first + 1, ..
abbrev pub HaveTaps : List ℤ → List ℤ → ℕ → ℕ → List ℤ → Type 0
HaveTaps cs line first taps lanes = IsHalved lanes (λ k. taps_sum cs line taps (first + k))

-- four lanes were written from place `at` on, and no other word
pub record AreWritten (lanes : List ℤ) (at : ℕ) (old new : List ℤ) : Type 0 where
  pub size : length new ≡ length old
  pub before : (k : ℕ) → k < at → word_at new k ≡ word_at old k
  pub written : (k : ℕ) → k < 4 → word_at new (at + k) ≡ word_at lanes k
  pub halves : AreHalves lanes → AreHalves old → AreHalves new

-- n sums from place `at` on are those of the outputs at the samples first, first + 1, ..; those before stay
pub record HasHalfSums (cs line : List ℤ) (first at n : ℕ) (old new : List ℤ) : Type 0 where
  pub size : length new ≡ length old
  pub before : (k : ℕ) → k < at → word_at new k ≡ word_at old k
  pub halves : AreHalves new
  pub sums : (q : ℕ) → q < n → word_at new (at + q) ≡ half_of (taps_sum cs line (length cs) (first + q))

-- the first n words are half sums, of the outputs at the samples first, first + 1, ..
abbrev pub BeginWithSums : List ℤ → List ℤ → ℕ → ℕ → List ℤ → Type 0
BeginWithSums cs line first n sums = (i : ℕ) → i < n → word_at sums i ≡ half_of (taps_sum cs line (length cs) (first + i))
