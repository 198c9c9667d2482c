use Rattle.std.proofs.Common.{w16, to_z, of_z, ap, sym, ◌∙◌}
use Rattle.std.proofs.lemmas.Int.{to_z-of_z}
use Rattle.std.specs.Int.Signed.{nat_abs-le}
use lib.Signed.{shr_z}
use Rattle.alg_biquad.proofs.HalfLemmas.{cut_word, doubled_once, word_alone}
use Rattle.alg_biquad.proofs.halves.doubled_and_rounded.Goals as goal

pub returns-in-Ok : goal.returns-in-Ok
returns-in-Ok c =
    let z = c.args.sum in
    let small = nat_abs-le z c.ranges.sum.sfits in
    let cut = cut_word z c.ranges.sum in
    let word = rw cut at c.in-Ok.ensures in
    ap (λ v. to_z w16 (of_z w16 v)) word.1 ∙ to_z-of_z w16 _ word.0 ∙ word_alone _ word.0 ∙ doubled_once z small

pub returns-in-Err : goal.returns-in-Err
returns-in-Err c =
    let z = c.args.sum in
    let small = nat_abs-le z c.ranges.sum.sfits in
    let limited = rw (cut_word z c.ranges.sum) at c.limited_word.ensures in
    to_z-of_z w16 c.limited_word.result (record { sfits = c.limited_word.type_inv }) ∙ limited ∙ doubled_once z small
