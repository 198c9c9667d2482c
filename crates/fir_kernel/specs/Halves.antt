-- Sums by halves, side by side: private clauses alone need this.
use Rattle.std.specs.Prelude.{ℕ, ℤ, List, ◌≡◌, ◌⊎◌, ◌<◌, ◌≤◌, ◌+◌, ◌-◌, ◌*◌, ◌^◌, length, unsigned_abs}
use Rattle.basic_op.specs.Halves.{half_of}
use Rattle.basic_op.specs.Operators.{l_mac_of}
use Rattle.ialg.specs.History.{word_at}
use Rattle.fir_kernel.specs.Sums.{l_mac_sum}

-- none is -32768
abbrev pub AreAboveLeast : List ℤ → Type 0
AreAboveLeast words = (k : ℕ) → unsigned_abs (word_at words k) ≤ 32767

-- the products of the coefficient and these samples are halves of what `L_mult` gives: none is that of -32768 and -32768
abbrev pub HasHalves : ℤ → List ℤ → Type 0
HasHalves c samples = (k : ℕ) → (unsigned_abs c ≤ 32767) ⊎ (unsigned_abs (word_at samples k) ≤ 32767)

-- so are those of all coefficients
abbrev pub HaveHalves : List ℤ → List ℤ → Type 0
HaveHalves cs samples = AreAboveLeast cs ⊎ AreAboveLeast samples

-- each is within the halves of 32 bits
abbrev pub AreHalves : List ℤ → Type 0
AreHalves sums = (k : ℕ) → unsigned_abs (word_at sums k) ≤ 2 ^ 30

-- each sum has one more product: of what was half of a sum, half of that sum and the product
abbrev pub HaveProduct : ℤ → List ℤ → List ℤ → List ℤ → Type 0
HaveProduct c samples old sums = (i : ℕ) (v : ℤ) → i < length old → word_at old i ≡ half_of v
    → word_at sums i ≡ half_of (l_mac_of v c (word_at samples i))

-- each has two more, one with a newer sample and then one with an older
abbrev pub HaveProducts : ℤ × ℤ → List ℤ → List ℤ → List ℤ → List ℤ → Type 0
HaveProducts c newer older old sums = (i : ℕ) (v : ℤ) → i < length old → word_at old i ≡ half_of v
    → word_at sums i ≡ half_of (l_mac_of (l_mac_of v c.0 (word_at newer i)) c.1 (word_at older i))

-- n words are halves of the sums of the first `taps` products, for the outputs at the samples first, first + step, .. of the block
abbrev pub AreHalfSums : List ℤ → List ℤ → ℕ → ℕ → ℕ → ℕ → List ℤ → Type 0
AreHalfSums cs line first step taps n sums = (i : ℕ) → i < n
    → word_at sums i ≡ half_of (l_mac_sum (word_at cs) (λ k. word_at line (length cs - 1 + (first + step * i) - k)) taps)
