-- What a coder means. The parameters are the rate in kbit/s, and the direction, 0 to encode and 1 to decode.
use Rattle.std.specs.Prelude.{zero, suc, ℤ, pos, List, [], ◌∷◌, Option, Some, None, if◌then◌else◌}
use Rattle.ialg.specs.Meaning.{is_between}
use Rattle.adpcm_kernel.specs.declared.rate.Rate.{Rate}
use Rattle.adpcm_kernel.specs.declared.rate.Rate.TheVariants.{Kbits16, Kbits24, Kbits32, Kbits40}
use Rattle.adpcm_kernel.specs.declared.rate.Direction.{Direction}
use Rattle.adpcm_kernel.specs.declared.rate.Direction.TheVariants.{Encode, Decode}
use Rattle.adpcm_kernel.specs.declared.rate.Coder.{Coder}

abbrev pub rate_named : ℤ → Option Rate
rate_named z =
    if is_between (pos 16) (pos 16) z then Some Kbits16
    else (if is_between (pos 24) (pos 24) z then Some Kbits24
    else (if is_between (pos 32) (pos 32) z then Some Kbits32
    else (if is_between (pos 40) (pos 40) z then Some Kbits40
    else None)))

abbrev pub direction_named : ℤ → Option Direction
direction_named (pos zero) = Some Encode
direction_named (pos (suc zero)) = Some Decode
direction_named _ = None

abbrev pub coder_of : Option Rate → Option Direction → Option Coder
coder_of (Some rate) (Some direction) = Some (record { rate = rate; direction = direction })
coder_of (Some rate) None = None
coder_of None direction = None

abbrev pub coder_named : List ℤ → Option Coder
coder_named (rate ∷ direction ∷ []) = coder_of (rate_named rate) (direction_named direction)
coder_named _ = None
