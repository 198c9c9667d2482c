-- Frames of two samples.
use Rattle.std.specs.Prelude.{ℕ, ℤ, List}

-- a pair has two samples
abbrev pub two_samples : List ℤ → ℕ
two_samples p = 2
