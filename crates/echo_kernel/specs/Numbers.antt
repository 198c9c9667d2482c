-- The numbers of the canceller's definition: that the code has the same ones is proved.
use Rattle.std.specs.Prelude.{ℕ, ℤ, pos}

-- the taps, the step, the share and the hold
abbrev pub parameters : ℕ
parameters = 4

abbrev pub most_taps : ℤ
most_taps = pos 256

-- squares are shifted by so many bits before they are summed: so 256 of them don't come to the limit of 32 bits
abbrev pub square_bits : ℤ
square_bits = pos 8

-- what is added to the energy before a step is divided by it
abbrev pub floor : ℤ
floor = pos 1024

-- 0.5 in Q15
abbrev pub half : ℤ
half = pos 16384

-- by so many bits a step is shifted to the right where neither its error nor the energy has a norm to take off
abbrev pub step_bits : ℤ
step_bits = pos 7

-- powers are means over some 2^8 pairs
abbrev pub power_bits : ℤ
power_bits = pos 8

-- the learning coefficients are better where their power is below that of those in use less a fourth of it,
abbrev pub better_bits : ℤ
better_bits = pos 2

-- and below an eighth of the near end's
abbrev pub clear_bits : ℤ
clear_bits = pos 3

-- those in use do harm where half of what they leave exceeds the near end's power
abbrev pub harm_bits : ℤ
harm_bits = pos 1

-- those that learn are given up where half of their power exceeds that of those in use
abbrev pub worse_bits : ℤ
worse_bits = pos 1
