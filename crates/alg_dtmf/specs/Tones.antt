-- The numbers of the definition, each by itself: that the code has the same ones is proved.
use Rattle.std.specs.Prelude.{ℤ, pos, neg_ℤ}

-- ---- twice the cosine of the angle by which a tone of so many Hz turns in a sample, in Q14: 2^15 cos(2 pi f / 8000), to the nearest

-- 27979.58
abbrev pub factor_697 : ℤ
factor_697 = pos 27980

-- 26956.28
abbrev pub factor_770 : ℤ
factor_770 = pos 26956

-- 25701.37
abbrev pub factor_852 : ℤ
factor_852 = pos 25701

-- 24218.90
abbrev pub factor_941 : ℤ
factor_941 = pos 24219

-- 19072.68
abbrev pub factor_1209 : ℤ
factor_1209 = pos 19073

-- 16324.53
abbrev pub factor_1336 : ℤ
factor_1336 = pos 16325

-- 13084.56
abbrev pub factor_1477 : ℤ
factor_1477 = pos 13085

-- 9314.84
abbrev pub factor_1633 : ℤ
factor_1633 = pos 9315

-- ---- the others

-- 1.0 in Q14
abbrev pub one : ℤ
one = pos 16384

-- samples are shifted by three bits less for the energy than for the recursions
abbrev pub fewer_bits : ℤ
fewer_bits = pos 3

-- N shifted to the left by so many bits is N / 128 in Q15
abbrev pub share_bits : ℤ
share_bits = pos 8

-- four tones of a band are told apart by two bits
abbrev pub place_bits : ℤ
place_bits = pos 2

-- the code of a frame without a digit
abbrev pub no_digit : ℤ
no_digit = neg_ℤ (pos 1)
