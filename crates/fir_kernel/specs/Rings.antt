-- Samples in a ring of words.
use Rattle.std.specs.Prelude.{ℕ, ℤ, ◌≡◌, ◌≤◌, ◌+◌, ◌%◌, ◌<◌, List, length, FitsSigned, ◌-◌}
use Rattle.std.specs.List.{All}
use Rattle.std.specs.Int.{w16}
use Rattle.ialg.specs.History.{History, word_at, past, with_samples}

-- the first `size` words are a ring, in which the next sample goes to `place`: from the word of the sample that came k before
-- the newest it is k + 1 words on to that place, for each of the last `count` samples
pub record IsRing (count size : ℕ) (words : List ℤ) (place : ℕ) (h : History) : Type 0 where
  pub within : place < size
  pub samples : (j k : ℕ) → k < count → j < size → (j + k + 1) % size ≡ place → word_at words j ≡ past h k

-- the word j is none of the `count` places of a ring of `size` words from `next` on
abbrev pub IsNoPlace : ℕ → ℕ → ℕ → ℕ → Type 0
IsNoPlace size next count j = (i : ℕ) → i < count → (next + i) % size ≡ j → ⊥

-- beside the `count` places of the ring from `next` on, and the last word, no word changed
abbrev pub OtherPlacesStay : ℕ → ℕ → List ℤ → List ℤ → Type 0
OtherPlacesStay next count old new = (j : ℕ) → j + 1 < length old → IsNoPlace (length old - 1) next count j → word_at new j ≡ word_at old j

-- samples were entered one after the other, each at the place of the oldest, and `place` is that of the next one
pub record Entered (size next : ℕ) (samples old new : List ℤ) (place : ℕ) : Type 0 where
  pub within : place < size
  pub ring : (count : ℕ) (h : History) → count ≤ size → IsRing count size old next h → IsRing count size new place (with_samples h samples)
  pub stays : (j : ℕ) → IsNoPlace size next (length samples) j → word_at new j ≡ word_at old j
  -- where they have room before the ring's end, they stand in a row, and the words before them stay
  pub row : next + length samples ≤ size → (k : ℕ) → k < length samples → word_at new (next + k) ≡ word_at samples k
  pub before : next + length samples ≤ size → (k : ℕ) → k < next → word_at new k ≡ word_at old k
  pub read : All (FitsSigned w16) samples
