use Rattle.std.proofs.Common.{rules, ◌≡◌, ◌^◌, min, pos, unsigned_abs, w16, SFits, to_z, of_z, ap, sym, ◌∙◌}
use Rattle.std.specs.Int.Signed.{shr_z, lt_z}
use Rattle.std.proofs.lemmas.Int.{to_z-of_z}
use Rattle.basic_op.specs.Operators.{floor_div}
use Rattle.basic_op.proofs.Shifts.{shr_z-floor, floor_div-min}
use Rattle.alg_tone.proofs.Limits.{shr_of-right}
use Rattle.alg_tone.proofs.kernel.Tuning.shifted_right.Goals as goal

pub returns : goal.returns
returns c =
    let x = c.args.x in
    let s = c.args.self.shift in
    let fs : SFits w16 s = search rules in
    let same : to_z w16 (of_z w16 s) ≡ s = to_z-of_z w16 s fs in
    let bits = c.min-bits.ensures ∙ ap (λ n. min n 15) (c.unsigned_abs.ensures.value ∙ ap unsigned_abs same) in
    let fits : SFits w16 (shr_z x (2 ^ c.min-bits.result)) = search rules in
    rw (to_z-of_z w16 x c.ranges.x, to_z-of_z w16 (shr_z x (2 ^ c.min-bits.result)) fits, shr_z-floor x (2 ^ c.min-bits.result))
    (ap (λ n. floor_div x (2 ^ n)) bits
    ∙ floor_div-min 15 (unsigned_abs s) x c.ranges.x.sfits
    ∙ sym (shr_of-right x s (ap (λ z. lt_z z (pos 0)) (sym same) ∙ c.if-self-lt0.false)))
