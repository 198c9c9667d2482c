-- The number of an interval by the five leading bits of a magnitude, and as the least that the segments give.
use Rattle.std.proofs.Common.{◌≡◌, ℕ, zero, suc, ◌+◌, ◌-◌, ◌*◌, ◌/◌, ◌%◌, ◌^◌, ◌<◌, ◌≤◌, max, min, inl, inr, sym, ap, ◌∙◌, subst, below_more, arith}
use Rattle.std.proofs.Math.Nat.{div-div-eq-div-mul}
use Rattle.std.proofs.Math.Pow.{pow_mono}
use Rattle.std.specs.Int.Count.{count_leading_zeros}
use Rattle.std.proofs.lemmas.Nat.{pow_pos, pow-add, mul-le, leading_top, div-add-mod'}
use Rattle.std.proofs.lemmas.Bool.{cases_lt}
use Rattle.alg_g711.specs.declared.TheConstants.{INTERVALS}
use Rattle.alg_g711.specs.declared.companding.Law.{Law}
use Rattle.alg_g711.specs.declared.companding.Law.TheVariants.{A, Mu}
use Rattle.alg_g711.specs.Companding.{interval_of}
use Rattle.alg_g711.specs.Least.{HasBitsPast, IsLeast}
use Rattle.alg_g711.proofs.Dividing.{holds_step, interval_is}

power_le : (i j : ℕ) → i ≤ j → 2 ^ i ≤ 2 ^ j
power_le i j h = pow_mono h

-- a number of 32 bits, counted from its leading zeros
pub record IsCounted (n zeros : ℕ) : Type 0 where
  pub enough : zeros ≤ 27
  pub bits : HasBitsPast n (27 - zeros)

pub counted : (n : ℕ) → 16 ≤ n → n < 2 ^ 32 → IsCounted n (count_leading_zeros 32 n)
counted n some b =
    let top = leading_top 32 n (omega arith) b in
    let j = top.0 in
    let zeros = count_leading_zeros 32 n in
    let sum : zeros + suc j ≡ 32 = top.1 in
    let four : 4 ≤ j = elim (cases_lt j 4) [
      | inl less ↦ let few : 2 ^ suc j ≤ 2 ^ 4 = power_le (suc j) 4 (omega arith) in absurd (omega (arith, few, top.3))
      | inr more ↦ more
    ] in
    let a : 27 - zeros + 4 ≡ j = omega arith in
    let b : 27 - zeros + 5 ≡ suc j = omega arith in
    record { enough = omega arith; bits = record { low = rw a top.2; high = rw b top.3 } }

-- the bits below the five leading ones, counted from the leading one
pub below_leading : (n log : ℕ) → 16 ≤ n → 2 ^ log ≤ n → n < 2 * 2 ^ log → (4 ≤ log) × HasBitsPast n (log - 4)
below_leading n log some low high =
    let four : 4 ≤ log = elim (cases_lt log 4) [
      | inl less ↦ let few : 2 ^ log ≤ 2 ^ 3 = power_le log 3 (omega arith) in absurd (omega (arith, few, high))
      | inr more ↦ more
    ] in
    let a : log - 4 + 4 ≡ log = omega arith in
    let b : log - 4 + 5 ≡ log + 1 = omega arith in
    let next : 2 ^ (log + 1) ≡ 2 ^ log * 2 = pow-add 2 log 1 in
    (four, record { low = rw a low; high = rw b (omega (arith, next, high)) })

-- the quotient by a width, where n has five bits above it
record IsQuotient (n w : ℕ) : Type 0 where
  pub five : 16 ≤ n / w
  pub bits : n / w < 32
  pub low : w * (16 + (n / w - 16)) ≤ n
  pub high : n < w * (16 + (n / w - 16)) + w

quotient : (n w : ℕ) → 0 < w → w * 16 ≤ n → n < w * 32 → IsQuotient n w
quotient n w some low high =
    let q = n / w in
    let parts : q * w + n % w ≡ n = div-add-mod' n w in
    let rest : n % w < w = omega arith in
    let five : 16 ≤ q = elim (cases_lt q 16) [
      | inl less ↦ let few : q * w ≤ 15 * w = mul-le q w 15 w (omega arith) (omega arith) in absurd (omega arith)
      | inr more ↦ more
    ] in
    let bits : q < 32 = elim (cases_lt q 32) [
      | inl less ↦ less
      | inr more ↦ let many : 32 * w ≤ q * w = mul-le 32 w q w more (omega arith) in absurd (omega arith)
    ] in
    let z : 16 + (q - 16) ≡ q = omega arith in
    record { five = five; bits = bits; low = rw z (omega arith); high = rw z (omega arith) }

five_bits : (n s : ℕ) → HasBitsPast n s → IsQuotient n (2 ^ s)
five_bits n s bits =
    let least : 2 ^ (s + 4) ≡ 2 ^ s * 16 = pow-add 2 s 4 in
    let most : 2 ^ (s + 5) ≡ 2 ^ s * 32 = pow-add 2 s 5 in
    quotient n (2 ^ s) (pow_pos s) (omega (arith, bits.low)) (omega (arith, bits.high))

-- less `first`, sixteen times s and the bits past s are the number of the interval that holds n
pub record IsNumber (law : Law) (n s first : ℕ) : Type 0 where
  pub few : s < 16
  pub enough : first ≤ 16 * s + n / 2 ^ s
  pub within : 16 * s + n / 2 ^ s - first < INTERVALS
  pub here : 16 * s + n / 2 ^ s - first ≡ interval_of law n

-- of mu-law, whose magnitudes begin at 32
pub mu_number : (y s : ℕ) → 32 ≤ y → y < 8192 → HasBitsPast y s → IsNumber Mu y s 32
mu_number y zero some few bits = absurd (omega (arith, bits.high))
mu_number y (suc e) some few bits =
    let w = 2 ^ suc e in
    let m = y / w - 16 in
    let number = 16 * suc e + y / w - 32 in
    let least : 2 ^ (suc e + 4) ≡ w * 16 = pow-add 2 (suc e) 4 in
    let most : 2 ^ (suc e + 5) ≡ w * 32 = pow-add 2 (suc e) 5 in
    let q = quotient y w (pow_pos (suc e)) (omega (arith, bits.low)) (omega (arith, bits.high)) in
    let segment : e < 8 = elim (cases_lt e 8) [
      | inl less ↦ less
      | inr more ↦ let many : 2 ^ 13 ≤ 2 ^ (suc e + 4) = power_le 13 (suc e + 4) (omega arith) in absurd (omega (arith, many, bits.low))
    ] in
    let z : e + 1 ≡ suc e = omega arith in
    let within : number < INTERVALS = omega arith in
    let same : number ≡ e * 16 + m = omega arith in
    record { few = omega arith; enough = omega arith; within = within; here = sym (interval_is Mu y number within (holds_step Mu y e m number within (omega arith) same (rw z q.low) (rw z q.high))) }

-- steps leave out at least the one bit that the finest leave out
pub past_bias : (y s : ℕ) → 32 ≤ y → HasBitsPast y s → 1 ≤ s
past_bias y zero some bits = absurd (omega (arith, bits.high))
past_bias y (suc e) some bits = omega arith

-- of A-law, whose first two segments have steps of one width
a_first : (n : ℕ) → n < 256 → IsNumber A n 4 64
a_first n few =
    let m = n / 16 in
    let number = 16 * 4 + m - 64 in
    let within : number < INTERVALS = omega arith in
    let same : number ≡ 0 * 16 + m = omega arith in
    record { few = omega arith; enough = omega arith; within = within; here = sym (interval_is A n number within (holds_step A n 0 m number within (omega arith) same (omega arith) (omega arith))) }

a_next : (n i : ℕ) → n < 32768 → HasBitsPast n (i + 4) → IsNumber A n (i + 4) 64
a_next n i few bits =
    let w = 2 ^ (i + 4) in
    let m = n / w - 16 in
    let number = 16 * (i + 4) + n / w - 64 in
    let least : 2 ^ (i + 4 + 4) ≡ w * 16 = pow-add 2 (i + 4) 4 in
    let most : 2 ^ (i + 4 + 5) ≡ w * 32 = pow-add 2 (i + 4) 5 in
    let q = quotient n w (pow_pos (i + 4)) (omega (arith, bits.low)) (omega (arith, bits.high)) in
    let segment : i < 7 = elim (cases_lt i 7) [
      | inl less ↦ less
      | inr more ↦ let many : 2 ^ 15 ≤ 2 ^ (i + 4 + 4) = power_le 15 (i + 4 + 4) (omega arith) in absurd (omega (arith, many, bits.low))
    ] in
    let part : 2 ^ (i + 4) ≡ 2 ^ i * 16 = pow-add 2 i 4 in
    let width : 16 * 2 ^ i ≡ w = omega arith in
    let within : number < INTERVALS = omega arith in
    let same : number ≡ suc i * 16 + m = omega arith in
    record { few = omega arith; enough = omega arith; within = within; here = sym (interval_is A n number within (holds_step A n (suc i) m number within (omega arith) same (rw width q.low) (rw width q.high))) }

-- steps leave out at least the bits that the finest leave out
pub past_finest : (n s : ℕ) → HasBitsPast (max n 256) s → 4 ≤ s
past_finest n s bits = elim (cases_lt s 4) [
  | inl less ↦ let small : 2 ^ (s + 5) ≤ 2 ^ 8 = power_le (s + 5) 8 (omega arith) in absurd (omega (arith, small, bits.high))
  | inr more ↦ more
]

pub a_number : (n s : ℕ) → n < 32768 → HasBitsPast (max n 256) s → IsNumber A n s 64
a_number n s few bits =
    let i = s - 4 in
    let four = past_finest n s bits in
    let z : i + 4 ≡ s = omega arith in
    elim (cases_lt n 256) [
      | inl less ↦
          let first : s ≡ 4 = elim (cases_lt s 5) [
            | inl few ↦ omega arith
            | inr more ↦ let many : 2 ^ 9 ≤ 2 ^ (s + 4) = power_le 9 (s + 4) (omega arith) in absurd (omega (arith, many, bits.low))
          ] in
          rw first (a_first n less)
      | inr more ↦
          let same : max n 256 ≡ n = omega arith in
          let bits' : HasBitsPast n s = subst (λ x. HasBitsPast x s) same bits in
          subst (λ t. IsNumber A n t 64) z (a_next n i few (subst (HasBitsPast n) (sym z) bits'))
    ]

-- ---- the least of the numbers that the segments give

-- a number that is no greater than those before takes their place
pub least_next : (number : ℕ → ℕ) (i least r : ℕ) → IsLeast least i number → r ≡ min least (number i) → IsLeast r (i + 1) number
least_next number i least r before e =
    let none_less : (k : ℕ) → k < i + 1 → r ≤ number k =
    below_more _ _ (λ k b. let h = before.none_less k b in omega (arith, h, e)) (omega (arith, e)) in
    elim (cases_lt (number i) least) [
      | inl less ↦ record { none_less = none_less; one = (i, omega arith, omega arith) }
      | inr more ↦
          let o = before.one in
          let b : o.0 < i = o.1 in
          let here : least ≡ number o.0 = o.2 in
          record { none_less = none_less; one = (o.0, omega arith, omega arith) }
    ]

-- one bit more is left out
one_bit : (n s t : ℕ) → t ≡ s + 1 → n / 2 ^ t ≡ n / 2 ^ s / 2
one_bit n s t one =
    let e : 2 ^ (s + 1) ≡ 2 ^ s * 2 = pow-add 2 s 1 in
    ap (λ k. n / 2 ^ k) one ∙ ap (λ w. n / w) e ∙ sym (div-div-eq-div-mul n (2 ^ s) 2)

-- where 16 are left in the end, each bit that is left out takes away 16 or more
finer : (n s d : ℕ) → 16 ≤ n / 2 ^ (d + s) → 16 * d + n / 2 ^ (d + s) ≤ n / 2 ^ s
finer n s zero some = let z : zero + s ≡ s = omega arith in rw z (omega arith)
finer n s (suc d) some =
    let half : n / 2 ^ (suc d + s) ≡ n / 2 ^ (d + s) / 2 = one_bit n (d + s) (suc d + s) (omega arith) in
    let before = finer n s d (omega arith) in
    omega arith

-- where fewer than 32 are there, the bits that are left out take away no more than 16 each
coarser : (n s d : ℕ) → n / 2 ^ s < 32 → n / 2 ^ s ≤ 16 * d + n / 2 ^ (d + s)
coarser n s zero few = let z : zero + s ≡ s = omega arith in rw z (omega arith)
coarser n s (suc zero) few =
    let half : n / 2 ^ (suc zero + s) ≡ n / 2 ^ s / 2 = one_bit n s (suc zero + s) (omega arith) in
    omega arith
coarser n s (suc (suc d)) few = omega arith

-- the least number is that of the segment that has five bits of the magnitude, or the first where it has no more
module _ (n finest e count least : ℕ) (within : e < count) (is : IsLeast least count (λ k. 16 * k + n / 2 ^ (finest + k)))
    (bits : n / 2 ^ (finest + e) < 32) where
  by_five : (16 ≤ n / 2 ^ (finest + e)) → least ≡ 16 * e + n / 2 ^ (finest + e)
  by_five five =
      let some = is.one in
      let k = some.0 in
      let most : least ≤ 16 * e + n / 2 ^ (finest + e) = is.none_less e within in
      let few : 16 * e + n / 2 ^ (finest + e) ≤ 16 * k + n / 2 ^ (finest + k) = elim (cases_lt k e) [
        | inl less ↦
            let d = e - k in
            let to : d + (finest + k) ≡ finest + e = omega arith in
            let h : 16 * d + n / 2 ^ (finest + e) ≤ n / 2 ^ (finest + k) = rw to at (finer n (finest + k) d (rw to five)) in
            omega arith
        | inr more ↦
            let d = k - e in
            let to : d + (finest + e) ≡ finest + k = omega arith in
            let h : n / 2 ^ (finest + e) ≤ 16 * d + n / 2 ^ (finest + k) = rw to at (coarser n (finest + e) d bits) in
            omega arith
      ] in
      omega (arith, some.2)

  by_first : e ≡ 0 → least ≡ n / 2 ^ (finest + e)
  by_first first =
      let some = is.one in
      let k = some.0 in
      let most : least ≤ 16 * e + n / 2 ^ (finest + e) = is.none_less e within in
      let to : k + (finest + e) ≡ finest + k = omega arith in
      let h : n / 2 ^ (finest + e) ≤ 16 * k + n / 2 ^ (finest + k) = rw to at (coarser n (finest + e) k bits) in
      omega (arith, some.2)

-- the least number is that of the interval, behind the first ones, which no interval has
pub record IsFound (law : Law) (n least first : ℕ) : Type 0 where
  pub here : least ≡ first + interval_of law n
  pub within : interval_of law n < INTERVALS

mu_by : (y s least : ℕ) → 32 ≤ y → y < 8192 → HasBitsPast y s → IsLeast least 8 (λ k. 16 * k + y / 2 ^ (1 + k)) → IsFound Mu y least 16
mu_by y zero least some few bits is = absurd (omega (arith, bits.high))
mu_by y (suc e) least some few bits is =
    let z : suc e ≡ 1 + e = omega arith in
    let number : IsNumber Mu y (1 + e) 32 = rw z at (mu_number y (suc e) some few bits) in
    let q : IsQuotient y (2 ^ (1 + e)) = rw z at (five_bits y (suc e) bits) in
    let segment : e < 8 = elim (cases_lt e 8) [
      | inl less ↦ less
      | inr more ↦ let many : 2 ^ 13 ≤ 2 ^ (suc e + 4) = power_le 13 (suc e + 4) (omega arith) in absurd (omega (arith, many, bits.low))
    ] in
    let is_here : least ≡ 16 * e + y / 2 ^ (1 + e) = by_five y 1 e 8 least segment is q.bits q.five in
    record { here = omega (arith, number.here, number.enough); within = omega (arith, number.here, number.within) }

pub mu_found : (y least : ℕ) → 32 ≤ y → y < 8192 → IsLeast least 8 (λ k. 16 * k + y / 2 ^ (1 + k)) → IsFound Mu y least 16
mu_found y least some few is =
    mu_by y (27 - count_leading_zeros 32 y) least some few (counted y (omega arith) (omega arith)).bits is

a_by : (n s least : ℕ) → n < 32768 → HasBitsPast (max n 256) s → IsLeast least 8 (λ k. 16 * k + n / 2 ^ (4 + k)) → IsFound A n least 0
a_by n s least few bits is =
    let number = a_number n s few bits in
    let q = five_bits (max n 256) s bits in
    let four = past_finest n s bits in
    let segment : s - 4 < 8 = elim (cases_lt s 11) [
      | inl less ↦ omega arith
      | inr more ↦ let many : 2 ^ 15 ≤ 2 ^ (s + 4) = power_le 15 (s + 4) (omega arith) in absurd (omega (arith, many, bits.low))
    ] in
    let z : 4 + (s - 4) ≡ s = omega arith in
    let is_here : least ≡ 16 * (s - 4) + n / 2 ^ s = elim (cases_lt n 256) [
      | inl less ↦
          let first : s ≡ 4 = elim (cases_lt s 5) [
            | inl few ↦ omega arith
            | inr more ↦ let many : 2 ^ 9 ≤ 2 ^ (s + 4) = power_le 9 (s + 4) (omega arith) in absurd (omega (arith, many, bits.low))
          ] in
          let none : s - 4 ≡ 0 = omega arith in
          let small : n / 2 ^ s < 32 = rw first (omega arith) in
          let h : least ≡ n / 2 ^ s = rw z at (by_first n 4 (s - 4) 8 least segment is (rw z small) none) in
          omega arith
      | inr more ↦
          let same : max n 256 ≡ n = omega arith in
          let q' : IsQuotient n (2 ^ s) = rw same at q in
          rw z at (by_five n 4 (s - 4) 8 least segment is (rw z q'.bits) (rw z q'.five))
    ] in
    record { here = omega (arith, number.here, number.enough); within = omega (arith, number.here, number.within) }

pub a_found : (n least : ℕ) → n < 32768 → IsLeast least 8 (λ k. 16 * k + n / 2 ^ (4 + k)) → IsFound A n least 0
a_found n least few is =
    a_by n (27 - count_leading_zeros 32 (max n 256)) least few (counted (max n 256) (omega arith) (omega arith)).bits is
