use Rattle.std.proofs.Common.{◌-ℤ◌, w16, w32, SFits, to_z, of_z, rules, ◌∙◌}
use Rattle.std.proofs.lemmas.Int.{to_z-of_z, fits_signed_from_abs}
use lib.Signed.{shr_z}
use Rattle.alg_biquad.proofs.HalfLemmas.{limits, shift_small}
use Rattle.alg_biquad.proofs.halves.limited_less.Goals as goal

pub returns : goal.returns
returns c =
    let sum = c.args.ahead -ℤ c.args.newer in
    let least = to_z-of_z w32 c.from-least.result (record { sfits = c.from-least.type_inv }) ∙ c.from-least.ensures in
    let most = to_z-of_z w32 c.from-most.result (record { sfits = c.from-most.type_inv }) ∙ c.from-most.ensures in
    let fits : SFits w32 sum = fits_signed_from_abs w32 sum c.requires in
    let shifted : SFits w32 (shr_z sum 16384) = fits_signed_from_abs w32 (shr_z sum 16384) (shift_small sum c.requires) in
    let limited = rw (to_z-of_z w32 c.args.ahead c.ranges.ahead, to_z-of_z w32 c.args.newer c.ranges.newer, to_z-of_z w32 sum fits, to_z-of_z w32 (shr_z sum 16384) shifted, least, most) at c.clamp.ensures.value in
    let word : SFits w16 (to_z w32 (of_z w32 c.clamp.result)) = search rules in
    to_z-of_z w16 (to_z w32 (of_z w32 c.clamp.result)) word ∙ to_z-of_z w32 c.clamp.result (record { sfits = c.clamp.type_inv }) ∙ limited ∙ limits (shr_z sum 16384)
