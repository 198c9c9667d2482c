-- A line echo canceller over the whole history of an instance. Its samples are pairs, that of the far end before that of the near end, and
-- it gives the near end without the far end's echo. The parameters are N step share hold.
use Rattle.std.specs.Prelude.{ℕ, zero, suc, ℤ, pos, unsigned_abs, Bool, not, ◌&&◌, ◌||◌, ◌==◌, ◌-◌, int_lt, List, [], ◌∷◌, length, take, map, replicate, if◌then◌else◌}
use Rattle.basic_op.specs.Operators.{abs_s_of, sub_of, add_of, shl_of, mult_of, mult_r_of, div_s_of, norm_s_of, norm_l_of, round_of, extract_h_of, l_deposit_h_of, l_add_of, l_sub_of, l_mult_of, l_shl_of, l_shr_of}
use Rattle.ialg.specs.History.{word_at}
use Rattle.ialg.specs.Meaning.{is_between}
use Rattle.echo_kernel.specs.Sums.{l_mac_sum}
use Rattle.echo_kernel.specs.Numbers.{parameters, most_taps, square_bits, floor, half, step_bits, power_bits, better_bits, clear_bits, harm_bits, worse_bits}

-- the words are N step share hold
abbrev pub is_canceller : List ℤ → Bool
is_canceller p = length p == parameters && is_between (pos 1) most_taps (word_at p 0)

abbrev pub taps : List ℤ → ℕ
taps p = unsigned_abs (word_at p 0)

-- the last N samples of the far end, the newest first, and 2^-8 of their energy; the coefficients that learn, in Q31, and those in use, in Q15;
-- the powers of what either leave, and of the near end; and for how many pairs nothing is learnt
pub record Line : Type 0 where
  pub far : List ℤ
  pub energy : ℤ
  pub learning : List ℤ
  pub used : List ℤ
  pub left : ℤ
  pub given : ℤ
  pub heard : ℤ
  pub hold : ℤ

-- before the first pair
abbrev pub silent : ℕ → Line
silent n = record { far = replicate n (pos 0); energy = pos 0; learning = replicate n (pos 0); used = replicate n (pos 0); left = pos 0; given = pos 0; heard = pos 0; hold = pos 0 }

-- the samples with a new one in the place of the oldest
abbrev pub entered : ℤ → List ℤ → List ℤ
entered x xs = x ∷ take (length xs - 1) xs

-- the echo that coefficients in Q15 make of the samples
abbrev pub echo_of : List ℤ → List ℤ → ℤ
echo_of cs xs = round_of (l_mac_sum (word_at cs) (word_at xs) (length cs))

abbrev pub square_of : ℤ → ℤ
square_of x = l_shr_of (l_mult_of x x) square_bits

-- the greatest of the first n magnitudes
abbrev pub louder_of : ℤ → ℤ → ℤ
louder_of a b = if int_lt a b then b else a

abbrev pub loudest_of : (ℕ → ℤ) → ℕ → ℤ
loudest_of x zero = pos 0
loudest_of x (suc k) = louder_of (loudest_of x k) (abs_s_of (x k))

-- the near end talks where it is louder than a share of all that its echo can come of: from there on nothing is learnt for `hold` pairs
unfoldable pub held : List ℤ → List ℤ → ℤ → ℤ → ℤ
held p xs near hold =
    if int_lt (mult_of (loudest_of (word_at xs) (length xs)) (word_at p 2)) (abs_s_of near) then word_at p 3
    else (if int_lt (pos 0) hold then sub_of hold (pos 1) else pos 0)

-- a power with the square of one more value
unfoldable pub followed : ℤ → ℤ → ℤ
followed v e = l_add_of v (l_shr_of (l_sub_of (l_mult_of e e) v) power_bits)

-- 1/2 by d, which is at least 1/2
abbrev pub inverse_of : ℤ → ℤ
inverse_of d = if int_lt d half then pos 0 else div_s_of half d

-- step e / (energy + floor) as a mantissa and a shift to the right
unfoldable pub mantissa : ℤ → ℤ → ℤ → ℤ
mantissa step e whole = mult_r_of (mult_r_of (shl_of e (norm_s_of e)) (inverse_of (extract_h_of (l_shl_of whole (norm_l_of whole))))) step

unfoldable pub shift : ℤ → ℤ → ℤ
shift e whole = sub_of (add_of step_bits (norm_s_of e)) (norm_l_of whole)

-- each coefficient goes a step down the gradient of the squared error e, by its own sample
abbrev pub moved : ℤ → ℤ → ℤ → ℤ → ℤ
moved a s w x = l_add_of w (l_shr_of (l_mult_of a x) s)

abbrev pub all_moved : ℤ → ℤ → List ℤ → List ℤ → List ℤ
all_moved a s (w ∷ ws) (x ∷ xs) = moved a s w x ∷ all_moved a s ws xs
all_moved a s _ _ = []

abbrev pub learnt : ℤ → ℤ → ℤ → List ℤ → List ℤ → List ℤ
learnt step e energy ws xs = let whole = l_add_of energy floor in all_moved (mantissa step e whole) (shift e whole) ws xs

-- the coefficients that learn are the better ones: they leave less than those in use, and little of the near end, unless those in use do harm
unfoldable pub is_better : ℤ → ℤ → ℤ → Bool
is_better left given heard =
    int_lt left (l_sub_of given (l_shr_of given better_bits)) && (int_lt left (l_shr_of heard clear_bits) || int_lt heard (l_shr_of given harm_bits))

-- they are far worse
unfoldable pub is_worse : ℤ → ℤ → Bool
is_worse left given = int_lt given (l_shr_of left worse_bits)

-- better ones are put to use while they learn; far worse ones are given up for those in use
abbrev pub chosen : Line → Line
chosen s =
    if not (int_lt (pos 0) s.hold) && is_better s.left s.given s.heard then record s { used = map extract_h_of s.learning; given = s.left }
    else (if is_worse s.left s.given then record s { learning = map l_deposit_h_of s.used; left = s.given } else s)

-- what is left of the near end by the coefficients that learn, and what is given
abbrev pub left_of : ℤ → ℤ → Line → ℤ
left_of far near s = sub_of near (echo_of (map extract_h_of s.learning) (entered far s.far))

abbrev pub given_of : ℤ → ℤ → Line → ℤ
given_of far near s = sub_of near (echo_of s.used (entered far s.far))

-- the line with one more pair heard, before it learns
abbrev pub heard_pair : List ℤ → ℤ → ℤ → Line → Line
heard_pair p far near s = record s {
  far = entered far s.far;
  energy = l_sub_of (l_add_of s.energy (square_of far)) (square_of (word_at s.far (length s.far - 1)));
  left = followed s.left (left_of far near s);
  given = followed s.given (given_of far near s);
  heard = followed s.heard near;
  hold = held p (entered far s.far) near s.hold;
}

-- it learns of this error
abbrev pub taught : ℤ → ℤ → Line → Line
taught step e s = if int_lt (pos 0) s.hold then s else record s { learning = learnt step e s.energy s.learning s.far }

-- the line behind one more pair
abbrev pub next : List ℤ → ℤ → ℤ → Line → Line
next p far near s = chosen (taught (word_at p 1) (left_of far near s) (heard_pair p far near s))

-- the line behind these samples, the newest first
abbrev pub line_of : List ℤ → List ℤ → Line
line_of p (near ∷ far ∷ xs) = next p far near (line_of p xs)
line_of p _ = silent (taps p)

-- what is given for the newest pair
abbrev pub cleared : List ℤ → List ℤ → ℤ
cleared p (near ∷ far ∷ xs) = given_of far near (line_of p xs)
cleared p _ = pos 0
