-- The digit in each frame of samples, by eight Goertzel recursions, over the whole history of an instance. The parameters are
-- N s threshold down up dominance share.
use Rattle.std.specs.Prelude.{ℕ, List, [], ◌∷◌, ℤ, pos, unsigned_abs, Bool, ◌&&◌, int_le, Option, Some, None, if◌then◌else◌}
use Rattle.basic_op.specs.Operators.{add_of, sub_of, shl_of, shr_of, mult_of, extract_h_of, round_of, l_mult_of, l_mac_of, l_msu_of, l_shl_of, norm_l_of}
use Rattle.ialg.specs.History.{History, word_at, outputs_by}
use Rattle.kind_parts.specs.Frames.{gives_by_frame}
use Rattle.alg_dtmf.specs.Tones.{one, fewer_bits, share_bits, place_bits, no_digit, factor_697, factor_770, factor_852, factor_941, factor_1209, factor_1336, factor_1477, factor_1633}
use Rattle.alg_dtmf.specs.declared.decision.Tone.{Tone}
use Rattle.alg_dtmf.specs.declared.decision.Levels.{Levels}
use Rattle.alg_dtmf.specs.declared.kernel.Band.{Band}
use Rattle.alg_dtmf.specs.declared.kernel.Factors.{Factors}

-- the samples of a frame
abbrev pub frame_length : List ℤ → ℕ
frame_length p = unsigned_abs (word_at p 0)

-- k v, rounded: the factor is in Q14
abbrev pub feedback_of : ℤ → ℤ → ℤ
feedback_of k v = round_of (l_shl_of (l_mult_of k v) (pos 1))

-- 1 / 2^s in Q14
abbrev pub gain_of : ℤ → ℤ
gain_of s = shr_of one s

-- v(n) = k v(n-1) - v(n-2) + g x, summed in Q30 and rounded once
abbrev pub next_value : ℤ → ℤ → ℤ → ℤ → ℤ → ℤ
next_value k g x v1 v2 = round_of (l_shl_of (l_mac_of (l_msu_of (l_mult_of k v1) v2 one) x g) (pos 1))

unfoldable pub next_values : ℤ → ℤ → ℤ → ℤ × ℤ → ℤ × ℤ
next_values k g x v = (next_value k g x v.0 v.1, v.0)

-- of a band's four tones
unfoldable pub next_band : Factors → ℤ → ℤ → Band → Band
next_band k g x v = record { a = next_values k.a g x v.a; b = next_values k.b g x v.b; c = next_values k.c g x v.c; d = next_values k.d g x v.d }

abbrev pub low_factors : Factors
low_factors = record { a = factor_697; b = factor_770; c = factor_852; d = factor_941 }

abbrev pub high_factors : Factors
high_factors = record { a = factor_1209; b = factor_1336; c = factor_1477; d = factor_1633 }

abbrev pub no_values : Band
no_values = record { a = (pos 0, pos 0); b = (pos 0, pos 0); c = (pos 0, pos 0); d = (pos 0, pos 0) }

-- the two newest values of each low tone, and of each high one, in a frame whose newest sample stands first
abbrev pub low_values : ℤ → List ℤ → Band
low_values s [] = no_values
low_values s (x ∷ xs) = next_band low_factors (gain_of s) x (low_values s xs)

abbrev pub high_values : ℤ → List ℤ → Band
high_values s [] = no_values
high_values s (x ∷ xs) = next_band high_factors (gain_of s) x (high_values s xs)

-- a tone's level, in Q31
unfoldable pub level_of : ℤ → ℤ × ℤ → ℤ
level_of k v = l_msu_of (l_mac_of (l_mult_of v.0 v.0) v.1 v.1) (feedback_of k v.0) v.1

unfoldable pub low_levels : Band → Levels
low_levels v = record { a = level_of factor_697 v.a; b = level_of factor_770 v.b; c = level_of factor_852 v.c; d = level_of factor_941 v.d }

unfoldable pub high_levels : Band → Levels
high_levels v = record { a = level_of factor_1209 v.a; b = level_of factor_1336 v.b; c = level_of factor_1477 v.c; d = level_of factor_1633 v.d }

-- the energy with the square of one more sample, shifted by so many bits
abbrev pub with_square : ℤ → ℤ → ℤ → ℤ
with_square n x e = let y = shr_of x n in l_mac_of e y y

-- the bits by which samples are shifted for the energy: fewer than for the recursions
abbrev pub energy_bits : ℤ → ℤ
energy_bits s = sub_of s fewer_bits

-- the energy of the frame
abbrev pub energy_of : ℤ → List ℤ → ℤ
energy_of s [] = pos 0
energy_of s (x ∷ xs) = with_square (energy_bits s) x (energy_of s xs)

-- ---- what is told of a frame of these eight levels and this energy

-- the upper word, after n doublings
unfoldable pub normal_of : ℤ → ℤ → ℤ
normal_of n v = extract_h_of (l_shl_of v n)

-- three others of its band are at most so much of it
unfoldable pub stands_out : ℤ → ℤ → ℤ → ℤ → ℤ → ℤ → Bool
stands_out dominance n v a b c =
    let most = mult_of (normal_of n v) dominance in
    int_le (normal_of n a) most && int_le (normal_of n b) most && int_le (normal_of n c) most

-- the tone of a band that stands out, by its place and its level
unfoldable pub tone_of : ℤ → ℤ → Levels → Option Tone
tone_of dominance n v =
    if stands_out dominance n v.a v.b v.c v.d then Some (record { place = pos 0; level = v.a })
    else (if stands_out dominance n v.b v.a v.c v.d then Some (record { place = pos 1; level = v.b })
    else (if stands_out dominance n v.c v.a v.b v.d then Some (record { place = pos 2; level = v.c })
    else (if stands_out dominance n v.d v.a v.b v.c then Some (record { place = pos 3; level = v.d })
    else None)))

-- both levels reach the threshold's square, neither is too far below the other, and together they are enough of the energy, of which
-- two tones alone have N / 128
unfoldable pub is_pair : List ℤ → ℤ → ℤ → ℤ → ℤ → Bool
is_pair p n e low high =
    let least = l_mult_of (word_at p 2) (word_at p 2) in
    let l = normal_of n low in
    let h = normal_of n high in
    let whole = mult_of (shl_of (word_at p 0) share_bits) (normal_of n e) in
    let loud = int_le least low && int_le least high in
    let level = int_le (mult_of l (word_at p 3)) h && int_le (mult_of h (word_at p 4)) l in
    let alone = int_le (mult_of (word_at p 6) whole) (add_of l h) in
    (loud && level) && alone

-- four times the place of the low tone and the place of the high one, and -1 where there is no digit
unfoldable pub code_by : List ℤ → ℤ → ℤ → Option Tone → Option Tone → ℤ
code_by p n e (Some low) (Some high) = if is_pair p n e low.level high.level then add_of (shl_of low.place place_bits) high.place else no_digit
code_by p n e (Some low) None = no_digit
code_by p n e None high = no_digit

unfoldable pub code_of : List ℤ → ℤ → Levels → Levels → ℤ
code_of p e low high = let n = norm_l_of e in code_by p n e (tone_of (word_at p 5) n low) (tone_of (word_at p 5) n high)

-- what is told of a frame of these samples
abbrev pub frame_code : List ℤ → List ℤ → ℤ
frame_code p xs =
    let s = word_at p 1 in
    code_of p (energy_of s xs) (low_levels (low_values s xs)) (high_levels (high_values s xs))

-- what the newest sample gives: the digit, where it is the last of its frame
abbrev pub dtmf_gives : List ℤ → History → List ℤ
dtmf_gives p h = gives_by_frame (frame_length p) (frame_code p) h

-- all that was given out
abbrev pub dtmf_outputs : List ℤ → History → List ℤ
dtmf_outputs p h = outputs_by (dtmf_gives p) h
