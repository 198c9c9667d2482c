-- Shifts by more bits than the word has.
use Rattle.std.proofs.Common.{◌≡◌, ℕ, zero, suc, ◌*◌, ◌-◌, ◌/◌, ◌^◌, ◌<◌, ◌≤◌, min, true, false, unsigned_abs, ℤ, pos, negsuc, ◌*ℤ◌, neg_ℤ, inl, inr, refl, ap, sym, ◌∙◌, arith}
use Rattle.std.specs.Int.{saturate_to_bits}
use Rattle.std.specs.Int.Signed.{shr_z, mag, lt_z}
use Rattle.std.proofs.lemmas.Bool.Decides.{nat_tests}
use Rattle.std.proofs.Math.Pow.{pow_mono}
use Rattle.std.proofs.Math.Nat.{div-eq_of_lt}
use Rattle.std.proofs.lemmas.Nat.{pow_pos, mul-le}
use Rattle.std.proofs.lemmas.Bool.{cases_lt}
use Rattle.basic_op.specs.Operators.{floor_div, saturate32, l_shl_of}

-- a shift to the right that copies the sign rounds down
pub shr_z-floor : (z : ℤ) (d : ℕ) → shr_z z d ≡ floor_div z d
shr_z-floor (pos n) d = refl
shr_z-floor (negsuc n) d = refl

below_quotient : (n d e : ℕ) → n < d → n < e → n / d ≡ n / e
below_quotient n d e p q = div-eq_of_lt p ∙ sym (div-eq_of_lt q)

-- n is 0 after so many halvings
halved-min : (bits k n : ℕ) → n < 2 ^ bits → n / 2 ^ min k bits ≡ n / 2 ^ k
halved-min bits k n h = elim (cases_lt k bits) [
  | inl p ↦ let e : min k bits ≡ k = omega arith in ap (λ j. n / 2 ^ j) e
  | inr p ↦
      let e : min k bits ≡ bits = omega arith in
      let more : 2 ^ bits ≤ 2 ^ k = pow_mono p in
      ap (λ j. n / 2 ^ j) e ∙ below_quotient n (2 ^ bits) (2 ^ k) h (omega arith)
]

-- a number of `bits` bits is 0 or -1 after so many halvings
pub floor_div-min : (bits k : ℕ) (z : ℤ) → mag z < 2 ^ bits → floor_div z (2 ^ min k bits) ≡ floor_div z (2 ^ k)
floor_div-min bits k (pos n) h = ap pos (halved-min bits k n h)
floor_div-min bits k (negsuc n) h = ap negsuc (halved-min bits k n h)

both_past : (a b top : ℕ) → top ≤ a → top ≤ b → min a top ≡ min b top
both_past a b top p q = omega arith

-- so many doublings pass the greatest word
doubled-min : (bits k n : ℕ) → min (suc n * 2 ^ min k bits - 1) (2 ^ bits - 1) ≡ min (suc n * 2 ^ k - 1) (2 ^ bits - 1)
doubled-min bits k n = elim (cases_lt k bits) [
  | inl p ↦ let e : min k bits ≡ k = omega arith in ap (λ j. min (suc n * 2 ^ j - 1) (2 ^ bits - 1)) e
  | inr p ↦
      let e : min k bits ≡ bits = omega arith in
      let more : 2 ^ bits ≤ 2 ^ k = pow_mono p in
      let one : 1 ≤ suc n = omega arith in
      let low : 1 * 2 ^ bits ≤ suc n * 2 ^ bits = mul-le 1 (2 ^ bits) (suc n) (2 ^ bits) one (omega arith) in
      let high : 1 * 2 ^ bits ≤ suc n * 2 ^ k = mul-le 1 (2 ^ bits) (suc n) (2 ^ k) one more in
      ap (λ j. min (suc n * 2 ^ j - 1) (2 ^ bits - 1)) e
      ∙ both_past (suc n * 2 ^ bits - 1) (suc n * 2 ^ k - 1) (2 ^ bits - 1) (omega arith) (omega arith)
]

-- the nearest words of m and of -m, for m that is not 0, by m - 1
min_by_one_less : (m top : ℕ) → 0 < m → min m top ≡ min (suc (min (m - 1) top)) top
min_by_one_less m top h = omega arith

saturate-pos : (bits m : ℕ) → 0 < m → saturate_to_bits bits (pos m) ≡ pos (min (suc (min (m - 1) (2 ^ bits - 1))) (2 ^ bits - 1))
saturate-pos bits m h = ap pos (min_by_one_less m (2 ^ bits - 1) h)

saturate-neg : (bits m : ℕ) → 0 < m → saturate_to_bits bits (neg_ℤ (pos m)) ≡ negsuc (min (m - 1) (2 ^ bits - 1))
saturate-neg bits zero h = absurd (omega arith)
saturate-neg bits (suc m) h = let e : m ≡ suc m - 1 = omega arith in ap (λ j. negsuc (min j (2 ^ bits - 1))) e

some : (n k : ℕ) → 0 < suc n * 2 ^ k
some n k = let p = pow_pos k in let q : 1 * 1 ≤ suc n * 2 ^ k = mul-le 1 1 (suc n) (2 ^ k) (omega arith) (omega arith) in omega arith

-- so many doublings saturate each number but 0
pub saturate-min : (bits k : ℕ) (z : ℤ) → saturate_to_bits bits (z *ℤ pos (2 ^ min k bits)) ≡ saturate_to_bits bits (z *ℤ pos (2 ^ k))
saturate-min bits k (pos zero) = ap (λ m. pos (min m (2 ^ bits - 1))) (omega arith)
saturate-min bits k (pos (suc n)) =
    saturate-pos bits (suc n * 2 ^ min k bits) (some n (min k bits))
    ∙ ap (λ m. pos (min (suc m) (2 ^ bits - 1))) (doubled-min bits k n)
    ∙ sym (saturate-pos bits (suc n * 2 ^ k) (some n k))
saturate-min bits k (negsuc n) =
    saturate-neg bits (suc n * 2 ^ min k bits) (some n (min k bits))
    ∙ ap negsuc (doubled-min bits k n)
    ∙ sym (saturate-neg bits (suc n * 2 ^ k) (some n k))

-- ---- a count's sign says which way

pub l_shl-negative : (v count : ℤ) → lt_z count (pos 0) ≡ true → l_shl_of v count ≡ floor_div v (2 ^ unsigned_abs count)
l_shl-negative v (pos n) h = absurd (grind (arith, nat_tests, h))
l_shl-negative v (negsuc n) h = refl

pub l_shl-positive : (v count : ℤ) → lt_z count (pos 0) ≡ false → l_shl_of v count ≡ saturate32 (v *ℤ pos (2 ^ unsigned_abs count))
l_shl-positive v (pos n) h = refl
l_shl-positive v (negsuc n) h = cc
