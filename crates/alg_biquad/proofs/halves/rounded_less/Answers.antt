use Rattle.std.proofs.Common.{pos, ◌+ℤ◌, ◌-ℤ◌, ℤ, ◌≡◌, w16, w32, SFits, ap, ◌∙◌, arith}
use Rattle.std.specs.Int.{saturate_to_bits}
use Rattle.std.proofs.lemmas.Int.{ints, to_z-of_z, fits_signed_from_abs}
use lib.Signed.{shr_z}
use Rattle.alg_biquad.proofs.HalfLemmas.{less_fits, one_limit}
use Rattle.alg_biquad.proofs.halves.rounded_less.Goals as goal

pub returns : goal.returns
returns c =
    let h = c.args.half in
    let n = c.args.newer in
    let o = c.args.older in
    let half_small = c.requires.half in
    let older_small = c.requires.older in
    let small = less_fits h n o c.requires.newer c.requires.older in
    let same : ((h +ℤ pos 8192) -ℤ o) -ℤ n ≡ ((h -ℤ n) -ℤ o) +ℤ pos 8192 = omega (arith, ints) in
    let step : SFits w32 (h +ℤ pos 8192) = fits_signed_from_abs w32 (h +ℤ pos 8192) (omega (arith, ints)) in
    let ahead : SFits w32 ((h +ℤ pos 8192) -ℤ o) = fits_signed_from_abs w32 ((h +ℤ pos 8192) -ℤ o) (omega (arith, ints)) in
    let nearest = rw (to_z-of_z w32 h c.ranges.half, to_z-of_z w32 n c.ranges.newer, to_z-of_z w32 o c.ranges.older, to_z-of_z w32 (h +ℤ pos 8192) step, to_z-of_z w32 ((h +ℤ pos 8192) -ℤ o) ahead) at c.nearest_less.ensures in
    to_z-of_z w16 c.nearest_less.result (record { sfits = c.nearest_less.type_inv }) ∙ nearest ∙ ap (λ (v : ℤ). saturate_to_bits 15 (shr_z v 16384)) same ∙ one_limit ((h -ℤ n) -ℤ o) small
