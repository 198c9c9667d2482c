-- Halves of sums that don't saturate.
use Rattle.std.proofs.Common.{◌≡◌, ℕ, ◌*◌, ◌-◌, ◌^◌, ◌<◌, ◌≤◌, ℤ, pos, negsuc, ◌+ℤ◌, ◌-ℤ◌, ◌*ℤ◌, unsigned_abs, sym, w16, w32, SFits, to_z, of_z, refl, ap, ◌∙◌, arith}
use Rattle.std.specs.Int.{int_max, int_min, saturate_to_bits}
use Rattle.std.specs.Int.Signed.{nat_abs-le}
use Rattle.std.proofs.lemmas.Int.{ints, to_z-of_z, unsigned_abs-mul, fits_signed_from_abs}
use Rattle.std.proofs.lemmas.Nat.{mul-le}
use lib.Signed.{shr_z}
use Rattle.basic_op.specs.Operators.{l_mult_of, l_mac_of, l_msu_of, l_shl_of, round_of, saturate32}
use Rattle.alg_biquad.specs.Equation.{biquad_value}
use Rattle.alg_biquad.specs.Halves.{IsHalfOf}

twice : (z : ℤ) → pos 2 *ℤ z ≡ z +ℤ z
twice z = omega (arith, ints)

unlimited : (z : ℤ) → unsigned_abs z < 2 ^ 30 → saturate_to_bits 31 (z +ℤ z) ≡ z +ℤ z
unlimited z h = grind arith

small_product : (a b : ℤ) → unsigned_abs a ≤ 32767 → unsigned_abs b ≤ 32768 → unsigned_abs (a *ℤ b) < 2 ^ 30
small_product a b p q =
    let h : unsigned_abs a * unsigned_abs b ≤ 32767 * 32768 = mul-le (unsigned_abs a) (unsigned_abs b) 32767 32768 p q in
    let s : unsigned_abs (a *ℤ b) ≡ unsigned_abs a * unsigned_abs b = unsigned_abs-mul a b in
    omega arith

pub product_within : (a b : ℤ) → unsigned_abs a ≤ 32767 → unsigned_abs b ≤ 32768 → unsigned_abs (a *ℤ b) ≤ 2 ^ 30 - 2 ^ 15
product_within a b p q =
    let h : unsigned_abs a * unsigned_abs b ≤ 32767 * 32768 = mul-le (unsigned_abs a) (unsigned_abs b) 32767 32768 p q in
    let s : unsigned_abs (a *ℤ b) ≡ unsigned_abs a * unsigned_abs b = unsigned_abs-mul a b in
    omega arith

pub half_of_product : (a b : ℤ) → unsigned_abs a ≤ 32767 → unsigned_abs b ≤ 32768 → IsHalfOf (a *ℤ b) (l_mult_of a b)
half_of_product a b p q =
    let small = small_product a b p q in
    record { doubled = sym (unlimited (a *ℤ b) small) ∙ sym (ap (saturate_to_bits 31) (twice (a *ℤ b))); small = small }

-- the half product taken from a half sum
pub half_less : (sum half a b s : ℤ) → IsHalfOf half (l_mult_of a b) → s ≡ sum -ℤ half → unsigned_abs s < 2 ^ 30 → IsHalfOf s (l_msu_of (sum +ℤ sum) a b)
half_less sum half a b s product e small =
    let d = product.doubled in
    let regroup : s +ℤ s ≡ (sum +ℤ sum) -ℤ l_mult_of a b = rw (← d, e) (omega (arith, ints)) in
    record { doubled = sym (unlimited s small) ∙ ap (saturate_to_bits 31) regroup; small = small }

-- the last half product taken from a half sum, whatever comes of it
last_less : (sum half a b : ℤ) → IsHalfOf half (l_mult_of a b) → saturate32 (pos 2 *ℤ (sum -ℤ half)) ≡ l_msu_of (sum +ℤ sum) a b
last_less sum half a b product =
    let d = product.doubled in
    let regroup : pos 2 *ℤ (sum -ℤ half) ≡ (sum +ℤ sum) -ℤ l_mult_of a b = rw (← d) (omega (arith, ints)) in
    ap (saturate_to_bits 31) regroup

-- the output by halves of the sums
pub by_halves : (c : ℕ → ℤ) (x x1 x2 y1 y2 first second third fourth older y : ℤ)
    → IsHalfOf first (l_mult_of (c 0) x) → IsHalfOf second (l_mac_of (first +ℤ first) (c 1) x1) → IsHalfOf third (l_mac_of (second +ℤ second) (c 2) x2)
    → IsHalfOf fourth (l_msu_of (third +ℤ third) (c 3) y1) → IsHalfOf older (l_mult_of (c 4) y2)
    → y ≡ round_of (l_shl_of (saturate32 (pos 2 *ℤ (fourth -ℤ older))) (pos 1)) → y ≡ biquad_value c x x1 x2 y1 y2
by_halves c x x1 x2 y1 y2 first second third fourth older y a b d e product rounded =
    let forward = b.doubled ∙ ap (λ v. l_mac_of v (c 1) x1) a.doubled in
    let three = d.doubled ∙ ap (λ v. l_mac_of v (c 2) x2) forward in
    let four = e.doubled ∙ ap (λ v. l_msu_of v (c 3) y1) three in
    let five = last_less fourth older (c 4) y2 product ∙ ap (λ v. l_msu_of v (c 4) y2) four in
    rounded ∙ ap (λ v. round_of (l_shl_of v (pos 1))) five

-- the half sum less both products, and half a step, is a Word32
pub less_fits : (half newer older : ℤ) → unsigned_abs (half -ℤ newer) < 2 ^ 30 → unsigned_abs older ≤ 2 ^ 30 - 2 ^ 15
    → unsigned_abs ((half -ℤ newer) -ℤ older) < 2 ^ 31 - 2 ^ 15
less_fits half newer older h o = omega (arith, ints)

pub shift_small : (z : ℤ) → unsigned_abs z < 2 ^ 31 → unsigned_abs (shr_z z 16384) < 2 ^ 31
shift_small z h = grind (arith, ints)

-- a number within both limits of a word
pub limits : (z : ℤ) → int_max (negsuc 32767) (int_min z (pos 32767)) ≡ saturate_to_bits 15 z
limits z = grind (arith, ints)

-- rounding that is limited once
pub one_limit : (z : ℤ) → unsigned_abs z < 2 ^ 31 - 2 ^ 15
    → saturate_to_bits 15 (shr_z (z +ℤ pos 8192) 16384) ≡ round_of (l_shl_of (saturate32 (pos 2 *ℤ z)) (pos 1))
one_limit z h = grind (arith, ints)

-- a word that isn't the least, as it is handed on
pub word_above : (v : ℤ) → unsigned_abs v ≤ 32767 → unsigned_abs (to_z w16 (of_z w16 v)) ≤ 32767
word_above v small = rw (to_z-of_z w16 v (fits_signed_from_abs w16 v (omega arith))) small

-- a word is within its limits
pub word_alone : (v : ℤ) → SFits w16 v → v ≡ saturate_to_bits 15 v
word_alone v fits = let small = fits.sfits in grind (arith, ints)

-- a sum that is doubled, limited, rounded and limited again, with the last limit alone
pub doubled_once : (z : ℤ) → unsigned_abs z ≤ 2 ^ 31
    → saturate_to_bits 15 (shr_z (shr_z z 16384 +ℤ pos 1) 2) ≡ round_of (saturate32 (z *ℤ pos 2))
doubled_once z h = grind (arith, ints)

-- what is made of the sum on the way fits a Word32
pub cut_word : (z : ℤ) → SFits w32 z
    → to_z w32 (of_z w32 (shr_z (to_z w32 (of_z w32 (to_z w32 (of_z w32 (shr_z (to_z w32 (of_z w32 z)) 16384)) +ℤ pos 1))) 2))
    ≡ shr_z (shr_z z 16384 +ℤ pos 1) 2
cut_word z fits =
    let h : unsigned_abs z ≤ 2 ^ 31 = nat_abs-le z fits.sfits in
    let a : unsigned_abs (shr_z z 16384) ≤ 2 ^ 17 = grind (arith, ints) in
    let b : unsigned_abs (shr_z (shr_z z 16384 +ℤ pos 1) 2) ≤ 2 ^ 17 = grind (arith, ints) in
    rw (
      to_z-of_z w32 z fits,
      to_z-of_z w32 (shr_z z 16384) (fits_signed_from_abs w32 (shr_z z 16384) (omega arith)),
      to_z-of_z w32 (shr_z z 16384 +ℤ pos 1) (fits_signed_from_abs w32 (shr_z z 16384 +ℤ pos 1) (omega (arith, ints))),
      to_z-of_z w32 (shr_z (shr_z z 16384 +ℤ pos 1) 2) (fits_signed_from_abs w32 (shr_z (shr_z z 16384 +ℤ pos 1) 2) (omega (arith, ints))),
    ) refl
