-- Sums of products in order, and the outputs of a filter over a line of samples.
use Rattle.std.specs.Prelude.{ℕ, zero, suc, ◌≡◌, ◌<◌, ◌+◌, ◌-◌, ◌*◌, ℤ, pos, List, length, ◌≤◌}
use Rattle.basic_op.specs.Operators.{l_mac_of, round_of}
use Rattle.ialg.specs.History.{word_at}

-- the sum of the first n products, taken in order
abbrev pub l_mac_sum : (ℕ → ℤ) → (ℕ → ℤ) → ℕ → ℤ
l_mac_sum c x zero = pos 0
l_mac_sum c x (suc k) = l_mac_of (l_mac_sum c x k) (c k) (x k)

-- the output at sample i of a block, which stands behind the past samples, the newest last
abbrev pub filtered_at : List ℤ → List ℤ → ℕ → ℤ
filtered_at cs line i = round_of (l_mac_sum (word_at cs) (λ k. word_at line (length cs - 1 + i - k)) (length cs))

-- n words are the outputs at the samples first, first + step, .. of the block
abbrev pub AreOutputs : List ℤ → List ℤ → ℕ → ℕ → ℕ → List ℤ → Type 0
AreOutputs cs line first step n out = (i : ℕ) → i < n → word_at out i ≡ filtered_at cs line (first + step * i)

-- from each of n words of the line on, first, first + step, .., it has so many words
abbrev pub Reaches : ℕ → ℕ → ℕ → ℕ → List ℤ → Type 0
Reaches first step n words line = (i : ℕ) → i < n → first + step * i + words ≤ length line
