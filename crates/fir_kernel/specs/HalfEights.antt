-- Sums by halves in vectors of eight lanes: private clauses alone need this.
use Rattle.std.specs.Prelude.{ℕ, ℤ, List, ◌≡◌, ◌<◌, ◌+◌, length}
use Rattle.basic_op.specs.Halves.{half_of}
use Rattle.ialg.specs.History.{word_at}
use Rattle.fir_kernel.specs.Halves.{AreHalves}
use Rattle.fir_kernel.specs.HalfLanes.{taps_sum}

-- eight lanes, each half of its sum
pub record IsHalved (lanes : List ℤ) (sums : ℕ → ℤ) : Type 0 where
  pub eight : length lanes ≡ 8
  pub within : AreHalves lanes
  pub halves : (k : ℕ) → k < 8 → word_at lanes k ≡ half_of (sums k)

-- eight lanes, each half of the sum of the first `taps` products, for the outputs at the samples first, first + 1, ..
abbrev pub HaveTaps : List ℤ → List ℤ → ℕ → ℕ → List ℤ → Type 0
HaveTaps cs line first taps lanes = IsHalved lanes (λ k. taps_sum cs line taps (first + k))

-- eight lanes were written from place `at` on, and no other word
pub record AreWritten (lanes : List ℤ) (at : ℕ) (old new : List ℤ) : Type 0 where
  pub size : length new ≡ length old
  pub before : (k : ℕ) → k < at → word_at new k ≡ word_at old k
  pub written : (k : ℕ) → k < 8 → word_at new (at + k) ≡ word_at lanes k
  pub halves : AreHalves lanes → AreHalves old → AreHalves new
