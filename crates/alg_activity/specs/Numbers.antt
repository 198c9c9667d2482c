-- The numbers of the detector's definition: that the code has the same ones is proved.
use Rattle.std.specs.Prelude.{ℕ, ℤ, pos}

-- the samples of a frame, the shift, the margin, the rise, the least floor, and the hangover
abbrev pub parameters : ℕ
parameters = 6

abbrev pub most_samples : ℤ
most_samples = pos 1024

-- the most bits of a shift, a margin or a rise
abbrev pub most_bits : ℤ
most_bits = pos 15

-- the greatest Word32: the floor before the first frame, so that the first one is the floor
abbrev pub no_floor : ℤ
no_floor = pos 2147483647

-- what is told of a frame with speech
abbrev pub speech : ℤ
speech = pos 1
