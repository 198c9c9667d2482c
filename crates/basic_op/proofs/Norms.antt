-- The norm of a word by the bits of its magnitude.
use Rattle.std.proofs.Common.{◌≡◌, ℕ, zero, suc, ◌+◌, ◌*◌, ◌-◌, ◌^◌, ◌<◌, ◌≤◌, Bool, true, false, ◌&&◌, nat_le, nat_lt, Some, find, unwrap_or, ℤ, pos, negsuc, ◌*ℤ◌, neg_ℤ, to_z, w16, inl, inr, refl, ap, sym, ◌∙◌, subst, arith}
use Rattle.std.specs.Int.Signed.{mag}
use Rattle.std.proofs.Math.Pow.{pow_mono}
use Rattle.std.specs.Int.Count.{count_leading_zeros}
use Rattle.std.proofs.lemmas.Nat.{pow_pos, pow-add, mul-le, leading_length}
use Rattle.std.proofs.lemmas.Int.{to_z_pos}
use Rattle.std.proofs.Math.Nat.{pow-suc}
use Rattle.std.proofs.lemmas.Bool.{cases_eq, cases_lt}
use Rattle.std.proofs.lemmas.Bool.Decides.{nat_tests}
use Rattle.std.specs.List.{range_with_len}
use Rattle.basic_op.specs.Operators.{is_normal, norm_of}

-- the first number that passes a test
find_first : (p : ℕ → Bool) (first count r : ℕ) → first ≤ r → r < first + count → p r ≡ true → ((k : ℕ) → first ≤ k → k < r → p k ≡ false) → find p (range_with_len first count) ≡ Some r
find_first p first zero r low high here before = absurd (omega arith)
find_first p first (suc count) r low high here before = elim (cases_eq first r) [
  | inl e ↦
      let test : p first ≡ true = subst (λ n. p n ≡ true) (sym e) here in
      rw test (ap Some e)
  | inr ne ↦
      let test : p first ≡ false = before first (omega arith) (omega arith) in
      rw test (find_first p (first + 1) count r (omega arith) (omega arith) here (λ k q s. before k (omega arith) s))
]

passes : (low n high : ℕ) {m : ℕ} → low ≤ n → m < high → (nat_le low n && nat_lt m high) ≡ true
passes low n high p q = grind (arith, nat_tests)

fails : (low n : ℕ) (b : Bool) → n < low → (nat_le low n && b) ≡ false
fails low n b p = grind (arith, nat_tests)

-- ---- n of m bits, doubled: m + r is the bits of the word

half_of_top : (n j : ℕ) → 2 ^ suc j ≤ 2 * n + 1 → 2 ^ j ≤ n
half_of_top n j h = omega (arith, pow-suc 2 j)

at_most : (a m r bits : ℕ) → m + r ≡ bits → a ≤ 2 ^ m → a * 2 ^ r ≤ 2 ^ bits
at_most a m r bits e h =
    let whole : 2 ^ (m + r) ≡ 2 ^ m * 2 ^ r = pow-add 2 m r in
    let least : a * 2 ^ r ≤ 2 ^ m * 2 ^ r = mul-le a (2 ^ r) (2 ^ m) (2 ^ r) h (omega arith) in
    rw (← e) (omega arith)

-- one doubling less leaves at most half
at_most_half : (a m k r bits : ℕ) → m + r ≡ bits → k < r → a ≤ 2 ^ m → 2 * (a * 2 ^ k) ≤ 2 ^ bits
at_most_half a m k r bits e h p =
    let part : a * 2 ^ k ≤ 2 ^ (m + k) = at_most a m k (m + k) refl p in
    let twice : 2 ^ suc (m + k) ≡ 2 ^ (m + k) * 2 = pow-suc 2 (m + k) in
    let more : 2 ^ suc (m + k) ≤ 2 ^ bits = pow_mono (omega arith) in
    omega arith

-- at the norm at least half is reached: of n for a word that is n, of n + 1 for one that is -(n + 1)
reached : (n m r bits : ℕ) → 0 < n → m + r ≡ bits → n < 2 ^ m → 2 ^ m ≤ 2 * n + 1 → 2 ^ bits ≤ 2 * (n * 2 ^ r)
reached n zero r bits some e below above = absurd (omega arith)
reached n (suc j) r bits some e below above =
    let half : 2 ^ j ≤ n = half_of_top n j above in
    let least : 2 ^ j * 2 ^ r ≤ n * 2 ^ r = mul-le (2 ^ j) (2 ^ r) n (2 ^ r) half (omega arith) in
    let whole : 2 ^ suc (j + r) ≡ 2 ^ (j + r) * 2 = pow-suc 2 (j + r) in
    let parts : 2 ^ (j + r) ≡ 2 ^ j * 2 ^ r = pow-add 2 j r in
    let sum : suc (j + r) ≡ bits = omega arith in
    rw (← sum) (omega arith)

reached_below : (n m r bits : ℕ) → 0 < bits → m + r ≡ bits → n < 2 ^ m → 2 ^ m ≤ 2 * n + 1 → 2 ^ bits ≤ 2 * (suc n * 2 ^ r - 1)
reached_below n zero r bits some e below above =
    let zero_word : n ≡ 0 = omega arith in
    let two : 2 ^ 1 ≤ 2 ^ bits = pow_mono some in
    let same : r ≡ bits = omega arith in
    rw (zero_word, same) (omega arith)
reached_below n (suc j) r bits some e below above =
    let half : 2 ^ j + 1 ≤ suc n = omega (arith, half_of_top n j above) in
    let least : (2 ^ j + 1) * 2 ^ r ≤ suc n * 2 ^ r = mul-le (2 ^ j + 1) (2 ^ r) (suc n) (2 ^ r) half (omega arith) in
    let whole : 2 ^ suc (j + r) ≡ 2 ^ (j + r) * 2 = pow-suc 2 (j + r) in
    let parts : 2 ^ (j + r) ≡ 2 ^ j * 2 ^ r = pow-add 2 j r in
    let one : 0 < 2 ^ r = pow_pos r in
    let sum : suc (j + r) ≡ bits = omega arith in
    rw (← sum) (omega arith)

-- what is tested of a negative word
is_normal-neg : (bits m : ℕ) → 0 < m → is_normal bits (neg_ℤ (pos m)) ≡ (nat_le (2 ^ bits) (2 * (m - 1)) && nat_lt (m - 1) (2 ^ bits))
is_normal-neg bits zero h = absurd (omega arith)
is_normal-neg bits (suc m) h =
    let e : m ≡ suc m - 1 = omega arith in
    ap (λ n. nat_le (2 ^ bits) (2 * n) && nat_lt n (2 ^ bits)) e

-- a word of m bits becomes normal by r doublings, and not by less
is_normal_at : (bits r m : ℕ) (z : ℤ) → 0 < bits → m + r ≡ bits → mag z < 2 ^ m → 2 ^ m ≤ 2 * mag z + 1 → (z ≡ pos 0 → ⊥) → is_normal bits (z *ℤ pos (2 ^ r)) ≡ true
is_normal_at bits r m (pos zero) some e below above not_zero = absurd (not_zero refl)
is_normal_at bits r m (pos (suc n)) some e below above not_zero =
    let one : 0 < 2 ^ r = pow_pos r in
    let past : suc (suc n) * 2 ^ r ≤ 2 ^ bits = at_most (suc (suc n)) m r bits e (omega arith) in
    let top : suc n * 2 ^ r < 2 ^ bits = omega arith in
    passes (2 ^ bits) (2 * (suc n * 2 ^ r)) (2 ^ bits) (reached (suc n) m r bits (omega arith) e below above) top
is_normal_at bits r m (negsuc n) some e below above not_zero =
    let one : 0 < 2 ^ r = pow_pos r in
    let past : suc n * 2 ^ r ≤ 2 ^ bits = at_most (suc n) m r bits e (omega arith) in
    let not_none : 0 < suc n * 2 ^ r = omega arith in
    let top : suc n * 2 ^ r - 1 < 2 ^ bits = omega arith in
    is_normal-neg bits (suc n * 2 ^ r) not_none
    ∙ passes (2 ^ bits) (2 * (suc n * 2 ^ r - 1)) (2 ^ bits) (reached_below n m r bits some e below above) top

is_normal_before : (bits r m k : ℕ) (z : ℤ) → m + r ≡ bits → k < r → mag z < 2 ^ m → is_normal bits (z *ℤ pos (2 ^ k)) ≡ false
is_normal_before bits r m k (pos n) e h below =
    let one : 0 < 2 ^ k = pow_pos k in
    let past : 2 * (suc n * 2 ^ k) ≤ 2 ^ bits = at_most_half (suc n) m k r bits e h (omega arith) in
    fails (2 ^ bits) (2 * (n * 2 ^ k)) (nat_lt (n * 2 ^ k) (2 ^ bits)) (omega arith)
is_normal_before bits r m k (negsuc n) e h below =
    let one : 0 < 2 ^ k = pow_pos k in
    let past : 2 * (suc n * 2 ^ k) ≤ 2 ^ bits = at_most_half (suc n) m k r bits e h (omega arith) in
    let not_none : 0 < suc n * 2 ^ k = omega arith in
    is_normal-neg bits (suc n * 2 ^ k) not_none
    ∙ fails (2 ^ bits) (2 * (suc n * 2 ^ k - 1)) (nat_lt (suc n * 2 ^ k - 1) (2 ^ bits)) (omega arith)

pub norm_is : (bits r m : ℕ) (z : ℤ) → 0 < bits → m + r ≡ bits → mag z < 2 ^ m → 2 ^ m ≤ 2 * mag z + 1 → (z ≡ pos 0 → ⊥) → norm_of bits z ≡ r
norm_is bits r m z some e below above not_zero =
    ap (λ o. unwrap_or o 0) (find_first (λ k. is_normal bits (z *ℤ pos (2 ^ k))) 0 (suc bits) r (omega arith) (omega arith)
    (is_normal_at bits r m z some e below above not_zero) (λ k low h. is_normal_before bits r m k z e h below))

few_bits : (bits m n : ℕ) → n < 2 ^ bits → 2 ^ m ≤ 2 * n + 1 → m ≤ bits
few_bits bits m n below above = elim (cases_lt bits m) [
  | inl more ↦
      let power : 2 ^ suc bits ≤ 2 ^ m = pow_mono more in
      let twice : 2 ^ suc bits ≡ 2 ^ bits * 2 = pow-suc 2 bits in
      absurd (omega arith)
  | inr few ↦ few
]

-- what the leading zeros of a magnitude of 32 bits say of a word that has `spare` bits less below its sign
pub record CountsNorm (bits spare leading : ℕ) (z : ℤ) : Type 0 where
  pub enough : spare ≤ leading
  pub value : to_z w16 (leading - spare) ≡ pos (norm_of bits z)

pub leading-norm : (bits spare n : ℕ) (z : ℤ) → 0 < bits → bits + spare ≡ 32 → n ≡ mag z → mag z < 2 ^ bits → (z ≡ pos 0 → ⊥) → CountsNorm bits spare (count_leading_zeros 32 n) z
leading-norm bits spare n z some width same fits not_zero =
    let wide : 2 ^ bits ≤ 2 ^ 32 = pow_mono {i = bits} {j = 32} (omega arith) in
    let below_32 : mag z < 2 ^ 32 = omega arith in
    let counted = leading_length 32 (mag z) below_32 in
    let few : counted.0 ≤ bits = few_bits bits counted.0 (mag z) fits counted.3 in
    let sum : count_leading_zeros 32 (mag z) + counted.0 ≡ 32 = counted.1 in
    let norm : norm_of bits z ≡ count_leading_zeros 32 (mag z) - spare =
    norm_is bits (count_leading_zeros 32 (mag z) - spare) counted.0 z some (omega arith) counted.2 counted.3 not_zero in
    rw same (record {
      enough = omega arith;
      value = to_z_pos w16 (count_leading_zeros 32 (mag z) - spare) (omega arith) ∙ ap pos (sym norm);
    })
