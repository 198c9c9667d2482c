-- Words by place.
use Rattle.std.specs.Prelude.{ℕ, ℤ, ◌≡◌, ◌<◌, ◌≤◌, ◌+◌, List, length}
use Rattle.ialg.specs.History.{word_at}

-- from a place on stand these words
abbrev pub StandFrom : ℕ → (from words : List ℤ) → Type 0
StandFrom at from words = (k : ℕ) → k < length from → word_at words (at + k) ≡ word_at from k

-- each word before a place is as it was
abbrev pub SameBefore : ℕ → (old new : List ℤ) → Type 0
SameBefore at old new = (k : ℕ) → k < at → word_at new k ≡ word_at old k

-- each word from a place on is as it was
abbrev pub SameFrom : ℕ → (old new : List ℤ) → Type 0
SameFrom at old new = (k : ℕ) → at ≤ k → word_at new k ≡ word_at old k
