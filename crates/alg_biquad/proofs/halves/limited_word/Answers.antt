use Rattle.std.proofs.Common.{w16, w32, SFits, to_z, of_z, rules, ◌∙◌}
use Rattle.std.proofs.lemmas.Int.{to_z-of_z}
use Rattle.alg_biquad.proofs.HalfLemmas.{limits}
use Rattle.alg_biquad.proofs.halves.limited_word.Goals as goal

pub returns : goal.returns
returns c =
    let wide = c.args.wide in
    let least = to_z-of_z w32 c.from-least.result (record { sfits = c.from-least.type_inv }) ∙ c.from-least.ensures in
    let most = to_z-of_z w32 c.from-most.result (record { sfits = c.from-most.type_inv }) ∙ c.from-most.ensures in
    let limited = rw (to_z-of_z w32 wide c.ranges.wide, least, most) at c.clamp.ensures.value in
    let word : SFits w16 (to_z w32 (of_z w32 c.clamp.result)) = search rules in
    to_z-of_z w16 (to_z w32 (of_z w32 c.clamp.result)) word ∙ to_z-of_z w32 c.clamp.result (record { sfits = c.clamp.type_inv }) ∙ limited ∙ limits wide
