-- Companding (G.711, 3.2): the code of a sample is that of the one interval that holds it, and the sample of a code is its
-- interval's middle. Intervals are numbered from the least: sixteen steps in each of eight segments.
use Rattle.std.specs.Prelude.{ℕ, zero, suc, ◌+◌, ◌-◌, ◌*◌, ◌/◌, ◌%◌, ◌^◌, min, Bool, ◌&&◌, nat_le, nat_lt, ℤ, pos, negsuc, neg_ℤ, find, unwrap_or, bit_xor, List, map, if◌then◌else◌}
use Rattle.std.specs.Int.Signed.{mag}
use Rattle.std.specs.List.{range_with_len}
use Rattle.alg_g711.specs.declared.TheConstants.{INTERVALS, CODES, SIGN_BIT, STEPS, FINEST_A_STEP, BIAS, GREATEST_MAGNITUDE, EVEN_BITS}
use Rattle.alg_g711.specs.declared.companding.Law.{Law}
use Rattle.alg_g711.specs.declared.companding.Law.TheVariants.{A, Mu}

-- ---- intervals

-- where step m of segment e begins
abbrev pub step_start : Law → ℕ → ℕ → ℕ
step_start A zero m = FINEST_A_STEP * m
step_start A (suc e) m = FINEST_A_STEP * 2 ^ e * (STEPS + m)
step_start Mu e m = 2 ^ (e + 1) * (STEPS + m)

-- where an interval begins, which ends where the next one begins
abbrev pub lower_end : Law → ℕ → ℕ
lower_end law number = step_start law (number / STEPS) (number % STEPS)

abbrev pub holds : Law → ℕ → ℕ → Bool
holds law magnitude number = nat_le (lower_end law number) magnitude && nat_lt magnitude (lower_end law (number + 1))

-- the one interval that holds the magnitude
unfoldable pub interval_of : Law → ℕ → ℕ
interval_of law magnitude = unwrap_or (find (holds law magnitude) (range_with_len 0 INTERVALS)) 0

abbrev pub middle_of : Law → ℕ → ℕ
middle_of law number = (lower_end law number + lower_end law (number + 1)) / 2

-- ---- samples: `mag x` is x, and -1 - x where x is negative

-- the magnitude that the intervals hold: mu-law has one of 13 bits, with a bias
abbrev pub magnitude_of : Law → ℤ → ℕ
magnitude_of A x = mag x
magnitude_of Mu x = min (mag x / 4 + BIAS) GREATEST_MAGNITUDE

-- and back
abbrev pub sample_of : Law → ℕ → ℕ
sample_of A magnitude = magnitude
sample_of Mu magnitude = 4 * (magnitude - BIAS)

-- ---- codes: the sign bit is set where the sample isn't negative

-- the bits of an interval's number in its code, and the other way round: A-law turns the even bits, mu-law turns all
abbrev pub turned : Law → ℕ → ℕ
turned A bits = bit_xor bits EVEN_BITS
turned Mu bits = INTERVALS - 1 - bits

abbrev pub encoded : Law → ℤ → ℕ
encoded law (pos n) = SIGN_BIT + turned law (interval_of law (magnitude_of law (pos n)))
encoded law (negsuc n) = turned law (interval_of law (magnitude_of law (negsuc n)))

abbrev pub decoded : Law → ℕ → ℤ
decoded law code =
    let n = sample_of law (middle_of law (turned law (code % SIGN_BIT))) in
    if nat_le SIGN_BIT code then pos n else neg_ℤ (pos n)

-- the samples of all codes, in order
unfoldable pub samples_of_codes : Law → List ℤ
samples_of_codes law = map (decoded law) (range_with_len 0 CODES)
