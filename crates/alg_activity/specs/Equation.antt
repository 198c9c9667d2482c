-- Voice activity in frames of samples, over the whole history of an instance: the energy of a frame over a tracked floor, with a hangover.
-- The parameters are N s margin rise least hang.
use Rattle.std.specs.Prelude.{ℕ, zero, suc, ℤ, pos, unsigned_abs, Bool, ◌&&◌, ◌==◌, ◌/◌, int_lt, int_le, List, [], ◌∷◌, length, take, drop, if◌then◌else◌}
use Rattle.basic_op.specs.Operators.{add_of, sub_of, l_add_of, l_mult_of, l_shl_of, l_shr_of}
use Rattle.ialg.specs.History.{word_at}
use Rattle.ialg.specs.Meaning.{is_between}
use Rattle.alg_activity.specs.declared.kernel.Heard.{Heard}
use Rattle.alg_activity.specs.Numbers.{parameters, most_samples, most_bits, no_floor, speech}

-- N and s
abbrev pub is_frame : ℤ → ℤ → Bool
is_frame samples shift = is_between (pos 1) most_samples samples && is_between (pos 0) most_bits shift

-- the margin and the rise
abbrev pub is_margin : ℤ → ℤ → Bool
is_margin margin rise = is_between (pos 0) most_bits margin && is_between (pos 0) most_bits rise

-- the least floor and the hangover
abbrev pub is_rest : ℤ → ℤ → Bool
is_rest least hang = int_le (pos 0) least && int_le (pos 0) hang

-- what a frame is compared with, and for how long it counts
abbrev pub are_limits : List ℤ → Bool
are_limits p = is_margin (word_at p 2) (word_at p 3) && is_rest (word_at p 4) (word_at p 5)

-- the words are N s margin rise least hang
abbrev pub is_detector : List ℤ → Bool
is_detector p = length p == parameters && (is_frame (word_at p 0) (word_at p 1) && are_limits p)

-- the samples of a frame
abbrev pub frame_length : List ℤ → ℕ
frame_length p = unsigned_abs (word_at p 0)

-- an energy with the square of one more sample, in Q31 and shifted by s bits to the right
abbrev pub with_square : ℤ → ℤ → ℤ → ℤ
with_square s x e = l_add_of e (l_shr_of (l_mult_of x x) s)

-- the energy of a frame, from the oldest sample on: the newest stands first
abbrev pub energy_of : ℤ → List ℤ → ℤ
energy_of s [] = pos 0
energy_of s (x ∷ xs) = with_square s x (energy_of s xs)

abbrev pub lesser_of : ℤ → ℤ → ℤ
lesser_of a b = if int_lt b a then b else a

abbrev pub greater_of : ℤ → ℤ → ℤ
greater_of a b = if int_lt a b then b else a

-- a floor one frame later, where no frame holds it down: 2^-rise of itself, and 1, more
abbrev pub risen : ℤ → ℤ → ℤ
risen rise floor = l_add_of floor (l_add_of (l_shr_of floor rise) (pos 1))

-- the floor behind a frame of this energy: it falls to it at once, and rises slowly
unfoldable pub tracked : ℤ → ℤ → ℤ → ℤ → ℤ
tracked rise least energy floor = greater_of least (lesser_of energy (risen rise floor))

-- for how many frames speech is told, from this one on: a frame that is 2^margin times the floor, or more, begins the hangover anew
unfoldable pub lasting : ℤ → ℤ → ℤ → ℤ → ℤ → ℤ
lasting margin hang energy floor left =
    if int_lt (l_shl_of floor margin) energy then add_of hang (pos 1)
    else (if int_lt (pos 0) left then sub_of left (pos 1) else pos 0)

-- what is heard behind a frame of this energy
unfoldable pub next : List ℤ → ℤ → Heard → Heard
next p energy s =
    let floor = tracked (word_at p 3) (word_at p 4) energy s.floor in
    record { floor = floor; left = lasting (word_at p 2) (word_at p 5) energy floor s.left }

-- before the first frame
abbrev pub unheard : Heard
unheard = record { floor = no_floor; left = pos 0 }

-- what is heard of the k newest frames of these samples, the newest sample first
abbrev pub heard_of : List ℤ → ℕ → List ℤ → Heard
heard_of p zero xs = unheard
heard_of p (suc k) xs = next p (energy_of (word_at p 1) (take (frame_length p) xs)) (heard_of p k (drop (frame_length p) xs))

-- what is heard of all frames of these samples
abbrev pub heard : List ℤ → List ℤ → Heard
heard p xs = heard_of p (length xs / frame_length p) xs

-- what is told of the newest frame: 1 for speech and for its hangover, and else 0
abbrev pub told_of : Heard → ℤ
told_of s = if int_lt (pos 0) s.left then speech else pos 0

abbrev pub activity : List ℤ → List ℤ → ℤ
activity p xs = told_of (heard p xs)
