-- The numbers of ITU-T G.726: that the code has the same ones is proved. Logarithms stand as signed numbers, which the Recommendation prints as
-- fields of 12 bits.
use Rattle.std.specs.Prelude.{ℤ, pos, neg_ℤ, List, [], ◌∷◌}

-- the least word: its sign bit alone
abbrev pub sign_bit : ℤ
sign_bit = neg_ℤ (pos 32768)

-- the sign bit of the floating format of 11 bits
abbrev pub float_sign : ℤ
float_sign = pos 1024

-- ---- the decision levels of the quantizer: the least logarithm of each magnitude of a code above 0, at so many kbit/s

abbrev pub levels_40 : List ℤ
levels_40 = neg_ℤ (pos 122) ∷ neg_ℤ (pos 16) ∷ pos 68 ∷ pos 139 ∷ pos 198 ∷ pos 250 ∷ pos 298 ∷ pos 339 ∷ pos 378 ∷ pos 413 ∷ pos 445 ∷ pos 475 ∷ pos 502 ∷ pos 528 ∷ pos 553 ∷ []

abbrev pub levels_32 : List ℤ
levels_32 = neg_ℤ (pos 124) ∷ pos 80 ∷ pos 178 ∷ pos 246 ∷ pos 300 ∷ pos 349 ∷ pos 400 ∷ []

abbrev pub levels_24 : List ℤ
levels_24 = pos 8 ∷ pos 218 ∷ pos 331 ∷ []

abbrev pub levels_16 : List ℤ
levels_16 = pos 261 ∷ []

-- ---- the logarithms of what the magnitudes of a code stand for (DQLN)

abbrev pub outputs_40 : List ℤ
outputs_40 = neg_ℤ (pos 2048) ∷ neg_ℤ (pos 66) ∷ pos 28 ∷ pos 104 ∷ pos 169 ∷ pos 224 ∷ pos 274 ∷ pos 318 ∷ pos 358 ∷ pos 395 ∷ pos 429 ∷ pos 459 ∷ pos 488 ∷ pos 514 ∷ pos 539 ∷ pos 566 ∷ []

abbrev pub outputs_32 : List ℤ
outputs_32 = neg_ℤ (pos 2048) ∷ pos 4 ∷ pos 135 ∷ pos 213 ∷ pos 273 ∷ pos 323 ∷ pos 373 ∷ pos 425 ∷ []

abbrev pub outputs_24 : List ℤ
outputs_24 = neg_ℤ (pos 2048) ∷ pos 135 ∷ pos 273 ∷ pos 373 ∷ []

abbrev pub outputs_16 : List ℤ
outputs_16 = pos 116 ∷ pos 365 ∷ []

-- ---- what they say to the scale factor (WI)

abbrev pub scales_40 : List ℤ
scales_40 = pos 14 ∷ pos 14 ∷ pos 24 ∷ pos 39 ∷ pos 40 ∷ pos 41 ∷ pos 58 ∷ pos 100 ∷ pos 141 ∷ pos 179 ∷ pos 219 ∷ pos 280 ∷ pos 358 ∷ pos 440 ∷ pos 529 ∷ pos 696 ∷ []

abbrev pub scales_32 : List ℤ
scales_32 = neg_ℤ (pos 12) ∷ pos 18 ∷ pos 41 ∷ pos 64 ∷ pos 112 ∷ pos 198 ∷ pos 355 ∷ pos 1122 ∷ []

abbrev pub scales_24 : List ℤ
scales_24 = neg_ℤ (pos 4) ∷ pos 30 ∷ pos 137 ∷ pos 582 ∷ []

abbrev pub scales_16 : List ℤ
scales_16 = neg_ℤ (pos 22) ∷ pos 439 ∷ []

-- ---- what they say to the speed of adaptation (FI)

abbrev pub speeds_40 : List ℤ
speeds_40 = pos 0 ∷ pos 0 ∷ pos 0 ∷ pos 0 ∷ pos 0 ∷ pos 1 ∷ pos 1 ∷ pos 1 ∷ pos 1 ∷ pos 1 ∷ pos 2 ∷ pos 3 ∷ pos 4 ∷ pos 5 ∷ pos 6 ∷ pos 6 ∷ []

abbrev pub speeds_32 : List ℤ
speeds_32 = pos 0 ∷ pos 0 ∷ pos 0 ∷ pos 1 ∷ pos 1 ∷ pos 1 ∷ pos 3 ∷ pos 7 ∷ []

abbrev pub speeds_24 : List ℤ
speeds_24 = pos 0 ∷ pos 1 ∷ pos 2 ∷ pos 7 ∷ []

abbrev pub speeds_16 : List ℤ
speeds_16 = pos 0 ∷ pos 7 ∷ []
