-- The energy of each frame of samples, over the whole history of an instance. The parameters are N s.
use Rattle.std.specs.Prelude.{ℤ, pos, Bool, ◌==◌, ◌&&◌, List, [], ◌∷◌, length}
use Rattle.basic_op.specs.Operators.{shr_of, extract_h_of, l_mac_of}
use Rattle.ialg.specs.History.{History, word_at}
use Rattle.ialg.specs.Meaning.{is_between}
use Rattle.kind_parts.specs.Words.{sum_words}
use Rattle.kind_parts.specs.Framings.{gives_in_frames}
use Rattle.alg_level.specs.declared.TheConstants.{PARAMETERS, FRAME_SAMPLES, MOST_SHIFT}

-- the words are N s
abbrev pub is_meter : List ℤ → Bool
is_meter p = length p == PARAMETERS && is_between (pos 1) FRAME_SAMPLES (word_at p 0) && is_between (pos 0) MOST_SHIFT (word_at p 1)

-- an energy with the square of one more sample, shifted by s bits to the right
abbrev pub with_square : ℤ → ℤ → ℤ → ℤ
with_square s x e = let y = shr_of x s in l_mac_of e y y

-- the sum of the squares, from the oldest sample on: the newest stands first
abbrev pub energy_of : ℤ → List ℤ → ℤ
energy_of s [] = pos 0
energy_of s (x ∷ xs) = with_square s x (energy_of s xs)

-- the words that keep the energy of these samples of a frame
abbrev pub energy_words : List ℤ → List ℤ → List ℤ
energy_words p xs = sum_words (energy_of (word_at p 1) xs)

-- what is told of a frame of these samples
abbrev pub frame_level : List ℤ → List ℤ → ℤ
frame_level p xs = extract_h_of (energy_of (word_at p 1) xs)

-- what the newest sample gives: the energy, where it is the last of its frame
abbrev pub level_gives : List ℤ → History → List ℤ
level_gives p h = gives_in_frames frame_level p h
