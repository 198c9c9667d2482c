-- Halves of G.191's sums, where none of them saturates.
use Rattle.std.specs.Prelude.{ℕ, ℤ, ◌≡◌, ◌≤◌, ◌<◌, ◌^◌, ◌+ℤ◌, unsigned_abs, List}
use Rattle.ialg.specs.History.{word_at}

-- no word is -32768
abbrev pub AreAboveLeast : List ℤ → Type 0
AreAboveLeast words = (k : ℕ) → unsigned_abs (word_at words k) ≤ 32767

-- twice the half is the sum, and a Word32 without being limited
pub record IsHalfOf (half sum : ℤ) : Type 0 where
  pub doubled : half +ℤ half ≡ sum
  pub small : unsigned_abs half < 2 ^ 30
