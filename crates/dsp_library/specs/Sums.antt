-- Blocks: an operator at each sample, sums of products, and filters.
use Rattle.std.specs.Prelude.{ℕ, zero, suc, ℤ, List, ◌≡◌, ◌<◌, ◌≤◌, ◌+◌, length}
use Rattle.basic_op.specs.Operators.{l_mac_of}
use Rattle.ialg.specs.History.{word_at}
use Rattle.ialg.specs.declared.TheConstants.{BLOCK_SAMPLES}
use Rattle.fir_kernel.specs.Sums.{filtered_at}
use Rattle.fir_kernel.specs.declared.TheConstants.{MOST_COEFFICIENTS}

-- v with the products of the first n words of each, doubled and saturated, as each sum is
abbrev pub l_mac_sum : ℤ → List ℤ → List ℤ → ℕ → ℤ
l_mac_sum v a b zero = v
l_mac_sum v a b (suc n) = l_mac_of (l_mac_sum v a b n) (word_at a n) (word_at b n)

-- both blocks have n samples
abbrev pub BothHave : ℕ → List ℤ → List ℤ → Type 0
BothHave n a b = (length a ≡ n) × (length b ≡ n)

-- each word of a block has become the operator's value at the two words there
abbrev pub AreOfTwo : (ℤ → ℤ → ℤ) → (a b old new : List ℤ) → Type 0
AreOfTwo operator a b old new = (k : ℕ) → k < length old → word_at new k ≡ operator (word_at a k) (word_at b k)

-- each word of a block has become the operator's value at the sample there and this word
abbrev pub AreOfOne : (ℤ → ℤ → ℤ) → (samples : List ℤ) → ℤ → (old new : List ℤ) → Type 0
AreOfOne operator samples word old new = (k : ℕ) → k < length old → word_at new k ≡ operator (word_at samples k) word

-- 1 to MOST_COEFFICIENTS coefficients, no more outputs than a block may have, and a line that is long enough for them
abbrev pub CanFilter : (coefficients line out : List ℤ) → Type 0
CanFilter coefficients line out = (1 ≤ length coefficients) × (length coefficients ≤ MOST_COEFFICIENTS) × (length out ≤ BLOCK_SAMPLES)
    × (length out + MOST_COEFFICIENTS ≤ length line + 1)

-- each word of a block has become an output of the filter
abbrev pub AreFiltered : (coefficients line old new : List ℤ) → Type 0
AreFiltered coefficients line old new = (i : ℕ) → i < length old → word_at new i ≡ filtered_at coefficients line i
