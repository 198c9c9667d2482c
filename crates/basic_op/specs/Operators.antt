-- The basic operators of ITU-T G.191 as functions of whole numbers, which have no bound.
-- A Word16 is a number from -32768 to 32767, a Word32 one from -2147483648 to 2147483647.
use Rattle.std.specs.Prelude.{ℕ, suc, ◌*◌, ◌/◌, ◌^◌, min, Bool, ◌&&◌, nat_le, nat_lt, ℤ, pos, negsuc, ◌+ℤ◌, ◌-ℤ◌, ◌*ℤ◌, neg_ℤ, unsigned_abs, int_lt, unwrap_or, find, if◌then◌else◌}
use Rattle.std.specs.Int.{saturate_to_bits, int_rem_euclid}
use Rattle.std.specs.List.{range_with_len}

-- the nearest Word16, and the nearest Word32
abbrev pub saturate16 : ℤ → ℤ
saturate16 z = saturate_to_bits 15 z

abbrev pub saturate32 : ℤ → ℤ
saturate32 z = saturate_to_bits 31 z

-- z / d, rounded towards minus infinity: `negsuc n` is -(n + 1)
abbrev pub floor_div : ℤ → ℕ → ℤ
floor_div (pos n) d = pos (n / d)
floor_div (negsuc n) d = negsuc (n / d)

-- the Word16 that differs from z by a multiple of 65536
abbrev pub wrap16 : ℤ → ℤ
wrap16 z =
    let rest = int_rem_euclid z (pos 65536) in
    if int_lt rest (pos 32768) then rest else rest -ℤ pos 65536

-- ---- sums, differences and signs

abbrev pub add_of : ℤ → ℤ → ℤ
add_of a b = saturate16 (a +ℤ b)

abbrev pub sub_of : ℤ → ℤ → ℤ
sub_of a b = saturate16 (a -ℤ b)

abbrev pub negate_of : ℤ → ℤ
negate_of a = saturate16 (neg_ℤ a)

abbrev pub abs_s_of : ℤ → ℤ
abs_s_of a = saturate16 (pos (unsigned_abs a))

abbrev pub l_add_of : ℤ → ℤ → ℤ
l_add_of v w = saturate32 (v +ℤ w)

abbrev pub l_sub_of : ℤ → ℤ → ℤ
l_sub_of v w = saturate32 (v -ℤ w)

abbrev pub l_negate_of : ℤ → ℤ
l_negate_of v = saturate32 (neg_ℤ v)

abbrev pub l_abs_of : ℤ → ℤ
l_abs_of v = saturate32 (pos (unsigned_abs v))

-- ---- products

abbrev pub mult_of : ℤ → ℤ → ℤ
mult_of a b = saturate16 (floor_div (a *ℤ b) 32768)

abbrev pub mult_r_of : ℤ → ℤ → ℤ
mult_r_of a b = saturate16 (floor_div ((a *ℤ b) +ℤ pos 16384) 32768)

abbrev pub l_mult_of : ℤ → ℤ → ℤ
l_mult_of a b = saturate32 (pos 2 *ℤ (a *ℤ b))

abbrev pub l_mac_of : ℤ → ℤ → ℤ → ℤ
l_mac_of v a b = l_add_of v (l_mult_of a b)

abbrev pub l_msu_of : ℤ → ℤ → ℤ → ℤ
l_msu_of v a b = l_sub_of v (l_mult_of a b)

-- ---- shifts: by a negative count each is the other one

abbrev pub shl_of : ℤ → ℤ → ℤ
shl_of a (pos n) = saturate16 (a *ℤ pos (2 ^ n))
shl_of a (negsuc n) = floor_div a (2 ^ suc n)

abbrev pub shr_of : ℤ → ℤ → ℤ
shr_of a (pos n) = floor_div a (2 ^ n)
shr_of a (negsuc n) = saturate16 (a *ℤ pos (2 ^ suc n))

abbrev pub l_shl_of : ℤ → ℤ → ℤ
l_shl_of v (pos n) = saturate32 (v *ℤ pos (2 ^ n))
l_shl_of v (negsuc n) = floor_div v (2 ^ suc n)

abbrev pub l_shr_of : ℤ → ℤ → ℤ
l_shr_of v (pos n) = floor_div v (2 ^ n)
l_shr_of v (negsuc n) = saturate32 (v *ℤ pos (2 ^ suc n))

-- ---- between the two widths

abbrev pub extract_h_of : ℤ → ℤ
extract_h_of v = floor_div v 65536

abbrev pub extract_l_of : ℤ → ℤ
extract_l_of v = wrap16 v

abbrev pub round_of : ℤ → ℤ
round_of v = extract_h_of (l_add_of v (pos 32768))

abbrev pub l_deposit_h_of : ℤ → ℤ
l_deposit_h_of a = a *ℤ pos 65536

abbrev pub l_deposit_l_of : ℤ → ℤ
l_deposit_l_of a = a

-- ---- norms and quotients

-- in the upper half of the positive range of `bits` bits, or in the lower half of the negative one
abbrev pub is_normal : ℕ → ℤ → Bool
is_normal bits (pos n) = nat_le (2 ^ bits) (2 * n) && nat_lt n (2 ^ bits)
is_normal bits (negsuc n) = nat_le (2 ^ bits) (2 * n) && nat_lt n (2 ^ bits)

-- the first count of doublings that makes z normal: for 0, which none makes normal, it is 0
abbrev pub norm_of : ℕ → ℤ → ℕ
norm_of bits z = unwrap_or (find (λ n. is_normal bits (z *ℤ pos (2 ^ n))) (range_with_len 0 (suc bits))) 0

abbrev pub norm_s_of : ℤ → ℤ
norm_s_of a = pos (norm_of 15 a)

abbrev pub norm_l_of : ℤ → ℤ
norm_l_of v = pos (norm_of 31 v)

-- the quotient in Q15, where 0 <= a <= b and 0 < b
abbrev pub div_s_of : ℤ → ℤ → ℤ
div_s_of a b = pos (min (unsigned_abs a * 32768 / unsigned_abs b) 32767)
