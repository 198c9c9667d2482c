-- The least of some numbers, and the leading bits of one: private clauses alone need this.
use Rattle.std.specs.Prelude.{ℕ, ◌+◌, ◌^◌, ◌<◌, ◌≤◌, ◌≡◌}

pub record IsLeast (least count : ℕ) (number : ℕ → ℕ) : Type 0 where
  pub none_less : (k : ℕ) → k < count → least ≤ number k
  pub one : (k : ℕ) × (k < count) × (least ≡ number k)

-- n has five bits above the lower s
pub record HasBitsPast (n s : ℕ) : Type 0 where
  pub low : 2 ^ (s + 4) ≤ n
  pub high : n < 2 ^ (s + 5)
