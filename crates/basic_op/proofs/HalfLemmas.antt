-- Halves of limited sums are limited sums of halves.
use Rattle.std.proofs.Common.{◌≡◌, ◌⊎◌, inl, inr, ◌*◌, ◌^◌, ◌<◌, ◌≤◌, ℤ, pos, negsuc, ◌+ℤ◌, ◌-ℤ◌, ◌*ℤ◌, unsigned_abs, w32, SFits, to_z, of_z, arith}
use Rattle.std.specs.Int.{saturate_to_bits}
use Rattle.std.proofs.lemmas.Int.{ints, to_z-of_z, fits_signed_from_abs, unsigned_abs-mul}
use Rattle.std.proofs.lemmas.Nat.{mul-le}
use Rattle.basic_op.specs.Operators.{saturate32, l_add_of, l_sub_of}
use Rattle.basic_op.specs.Halves.{half_of}

-- a product of words that aren't both -32768
pub product_small : (a b : ℤ) → unsigned_abs a ≤ 32768 → unsigned_abs b ≤ 32768 → (unsigned_abs a ≤ 32767) ⊎ (unsigned_abs b ≤ 32767)
    → unsigned_abs (a *ℤ b) < 2 ^ 30
product_small a b p q not_both =
    let s : unsigned_abs (a *ℤ b) ≡ unsigned_abs a * unsigned_abs b = unsigned_abs-mul a b in
    elim not_both [
      | inl least ↦ let h : unsigned_abs a * unsigned_abs b ≤ 32767 * 32768 = mul-le (unsigned_abs a) (unsigned_abs b) 32767 32768 least q in omega arith
      | inr least ↦ let h : unsigned_abs a * unsigned_abs b ≤ 32768 * 32767 = mul-le (unsigned_abs a) (unsigned_abs b) 32768 32767 p least in omega arith
    ]

-- a product doubled and limited has it for its half
pub half_product : (p : ℤ) → unsigned_abs p < 2 ^ 30 → p ≡ half_of (saturate32 (pos 2 *ℤ p))
half_product p h = grind (arith, ints)

pub half_add : (v p : ℤ) → unsigned_abs p < 2 ^ 30 → saturate_to_bits 30 (half_of v +ℤ p) ≡ half_of (l_add_of v (saturate32 (pos 2 *ℤ p)))
half_add (pos n) (pos m) h = grind (arith, ints)
half_add (pos n) (negsuc m) h = grind (arith, ints)
half_add (negsuc n) (pos m) h = grind (arith, ints)
half_add (negsuc n) (negsuc m) h = grind (arith, ints)

pub half_sub : (v p : ℤ) → unsigned_abs p < 2 ^ 30 → saturate_to_bits 30 (half_of v -ℤ p) ≡ half_of (l_sub_of v (saturate32 (pos 2 *ℤ p)))
half_sub (pos n) (pos m) h = grind (arith, ints)
half_sub (pos n) (negsuc m) h = grind (arith, ints)
half_sub (negsuc n) (pos m) h = grind (arith, ints)
half_sub (negsuc n) (negsuc m) h = grind (arith, ints)

-- a half and a product of words that aren't both -32768 have a sum and a difference in 32 bits
pub sum_fits : (half p : ℤ) → SFits w32 half → SFits w32 p → unsigned_abs half ≤ 2 ^ 30 → unsigned_abs p < 2 ^ 30
    → SFits w32 (to_z w32 (of_z w32 half) +ℤ to_z w32 (of_z w32 p))
sum_fits half p fh fp h q = rw (to_z-of_z w32 half fh, to_z-of_z w32 p fp) (fits_signed_from_abs w32 (half +ℤ p) (omega (arith, ints)))

pub difference_fits : (half p : ℤ) → SFits w32 half → SFits w32 p → unsigned_abs half ≤ 2 ^ 30 → unsigned_abs p < 2 ^ 30
    → SFits w32 (to_z w32 (of_z w32 half) -ℤ to_z w32 (of_z w32 p))
difference_fits half p fh fp h q = rw (to_z-of_z w32 half fh, to_z-of_z w32 p fp) (fits_signed_from_abs w32 (half -ℤ p) (omega (arith, ints)))

-- what is limited to the half of a Word32
half_small : (z : ℤ) → unsigned_abs (saturate_to_bits 30 z) ≤ 2 ^ 30
half_small z = grind (arith, ints)

pub half_limited : (r z : ℤ) → SFits w32 r → r ≡ saturate_to_bits 30 z → unsigned_abs (to_z w32 (of_z w32 r)) ≤ 2 ^ 30
half_limited r z fits e = rw (to_z-of_z w32 r fits, e) (half_small z)
