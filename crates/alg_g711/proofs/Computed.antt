-- What was computed for all codes.
use Rattle.std.proofs.Common.{◌≡◌, ◌≢◌, ℕ, ◌+◌, ◌-◌, ◌*◌, ◌/◌, ◌%◌, ◌^◌, ◌<◌, ◌≤◌, Bool, true, false, ◌==◌, ◌&&◌, ◌||◌, nat_le, ℤ, ◌<ℤ◌, pos, int_lt, refl, arith}
use Rattle.std.proofs.lemmas.Bool.{and_parts}
use Rattle.std.specs.List.{list_all, range_with_len}
use Rattle.std.proofs.lemmas.Int.{ints}
use Rattle.std.proofs.lemmas.Bool.Decides.{nat_tests}
use Rattle.alg_g711.specs.declared.TheConstants.{INTERVALS, CODES}
use Rattle.alg_g711.specs.declared.companding.Law.{Law}
use Rattle.alg_g711.specs.declared.companding.Law.TheVariants.{A, Mu}
use Rattle.alg_g711.specs.Companding.{turned, encoded, decoded, interval_of, sample_of, lower_end, middle_of, samples_of_codes}
use Rattle.alg_g711.specs.Steps.{width_of}
use Rattle.alg_g711.specs.declared.tables.TheConstants.{A_SAMPLES, MU_SAMPLES}
use Rattle.alg_g711.specs.Intervals.{IsMonotone, CodesComeBack}
use Rattle.alg_g711.proofs.Dividing.{all_in}

same : (a b : ℕ) → (a == b) ≡ true → a ≡ b
same a b e = grind (arith, nat_tests)

other : (a b : ℕ) → a ≢ b → (a == b) ≡ false
other a b e = grind (arith, nat_tests)

second : (a b : Bool) → (a || b) ≡ true → a ≡ false → b ≡ true
second true b e f = cc
second false b e f = e

below : (a b : ℤ) → int_lt a b ≡ true → a <ℤ b
below a b e = grind (arith, ints)

at_most : (a b : ℕ) → nat_le a b ≡ true → a ≤ b
at_most a b e = grind (arith, nat_tests)

-- ---- codes come back

comes_back : Law → ℕ → Bool
comes_back law code = encoded law (decoded law code) == code

mu_comes_back : ℕ → Bool
mu_comes_back code = code == 127 || comes_back Mu code

a_back : list_all (comes_back A) (range_with_len 0 CODES) ≡ true
unfolding comes_back interval_of
a_back = refl

mu_back : list_all mu_comes_back (range_with_len 0 CODES) ≡ true
unfolding mu_comes_back comes_back interval_of
mu_back = refl

one_back : (law : Law) (code : ℕ) → comes_back law code ≡ true → encoded law (decoded law code) ≡ code
unfolding comes_back
one_back law code e = same (encoded law (decoded law code)) code e

mu_one_back : (code : ℕ) → code ≢ 127 → mu_comes_back code ≡ true → comes_back Mu code ≡ true
unfolding mu_comes_back
mu_one_back code ne e = second (code == 127) (comes_back Mu code) e (other code 127 ne)

zero_of_mu : encoded Mu (pos 0) ≡ 255
unfolding interval_of
zero_of_mu = refl

pub codes_come_back : CodesComeBack
codes_come_back = record {
  a = λ code b. one_back A code (all_in (comes_back A) 0 CODES a_back code (omega arith) (omega arith));
  mu = λ code b ne. one_back Mu code (mu_one_back code ne (all_in mu_comes_back 0 CODES mu_back code (omega arith) (omega arith)));
  negative_zero = refl;
  zero = zero_of_mu;
}

-- ---- monotone

rises : Law → ℕ → ℕ → Bool
rises law low high =
    int_lt (decoded law (128 + turned law low)) (decoded law (128 + turned law high))
    && int_lt (decoded law (turned law high)) (decoded law (turned law low))

rises_from_all : Law → ℕ → Bool
rises_from_all law high = list_all (λ low. rises law low high) (range_with_len 0 high)

all_rise : (law : Law) → list_all (rises_from_all law) (range_with_len 0 INTERVALS) ≡ true
unfolding rises rises_from_all
all_rise A = refl
all_rise Mu = refl

one_rises : (law : Law) (low high : ℕ) → low < high → high < INTERVALS → rises law low high ≡ true
unfolding rises_from_all
one_rises law low high less b =
    let row = all_in (rises_from_all law) 0 INTERVALS (all_rise law) high (omega arith) (omega arith) in
    all_in (λ low. rises law low high) 0 high row low (omega arith) (omega arith)

pub monotone : (law : Law) (low high : ℕ) → low < high → high < INTERVALS → IsMonotone law low high
unfolding rises
monotone law low high less b =
    let up = decoded law (128 + turned law low) in
    let higher = decoded law (128 + turned law high) in
    let down = decoded law (turned law low) in
    let lower = decoded law (turned law high) in
    let parts = and_parts (int_lt up higher) (int_lt lower down) (one_rises law low high less b) in
    record { positive = below up higher parts.0; negative = below lower down parts.1 }

-- ---- middles

a_shifts : ℕ → Bool
a_shifts e = nat_le (16 * 2 ^ (e - 1) % 2 ^ 16) 1024

mu_shifts : ℕ → Bool
mu_shifts e = 2 * 2 ^ e % 2 ^ 16 == 2 ^ (e + 1)

all_a_shifts : list_all a_shifts (range_with_len 0 8) ≡ true
unfolding a_shifts
all_a_shifts = refl

all_mu_shifts : list_all mu_shifts (range_with_len 0 8) ≡ true
unfolding mu_shifts
all_mu_shifts = refl

pub a_shift : (e : ℕ) → e < 8 → 16 * 2 ^ (e - 1) % 2 ^ 16 ≤ 1024
unfolding a_shifts
a_shift e b = at_most (16 * 2 ^ (e - 1) % 2 ^ 16) 1024 (all_in a_shifts 0 8 all_a_shifts e (omega arith) (omega arith))

pub mu_shift : (e : ℕ) → e < 8 → 2 * 2 ^ e % 2 ^ 16 ≡ 2 ^ (e + 1)
unfolding mu_shifts
mu_shift e b = same (2 * 2 ^ e % 2 ^ 16) (2 ^ (e + 1)) (all_in mu_shifts 0 8 all_mu_shifts e (omega arith) (omega arith))

-- the middle of an interval as a magnitude and as a sample
has_middle : Law → ℕ → Bool
has_middle law number = nat_le (sample_of law (middle_of law number)) 32767 && nat_le 33 (lower_end Mu number + width_of Mu number / 2)

all_have_middles : (law : Law) → list_all (has_middle law) (range_with_len 0 INTERVALS) ≡ true
unfolding has_middle
all_have_middles A = refl
all_have_middles Mu = refl

pub record HasMiddle (law : Law) (number : ℕ) : Type 0 where
  pub fits : sample_of law (middle_of law number) ≤ 32767
  pub biased : 33 ≤ lower_end Mu number + width_of Mu number / 2

pub middle : (law : Law) (number : ℕ) → number < INTERVALS → HasMiddle law number
unfolding has_middle
middle law number b =
    let e = all_in (has_middle law) 0 INTERVALS (all_have_middles law) number (omega arith) (omega arith) in
    let parts = and_parts (nat_le (sample_of law (middle_of law number)) 32767) (nat_le 33 (lower_end Mu number + width_of Mu number / 2)) e in
    record { fits = at_most (sample_of law (middle_of law number)) 32767 parts.0; biased = at_most 33 (lower_end Mu number + width_of Mu number / 2) parts.1 }

-- ---- the tables

pub a_samples : A_SAMPLES ≡ samples_of_codes A
unfolding samples_of_codes
a_samples = refl

pub mu_samples : MU_SAMPLES ≡ samples_of_codes Mu
unfolding samples_of_codes
mu_samples = refl
