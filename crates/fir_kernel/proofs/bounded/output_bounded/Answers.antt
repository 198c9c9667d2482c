use Rattle.std.proofs.Common.{◌∙◌, FitsSigned, rules, w16, w32, arith}
use Rattle.std.proofs.lemmas.Int.{to_z-of_z}
use Rattle.fir_kernel.proofs.Bounding.{half_turned}
use Rattle.fir_kernel.proofs.bounded.output_bounded.Goals as goal

pub half_round-requires : goal.half_round-requires
half_round-requires c =
    let s = c.dot_turned-sum.result in
    let fits : FitsSigned w32 s = search rules in
    let half = half_turned c.args.coefficients.now c.args.line.now c.args.at c.requires.bounded c.args.at s c.requires.some (omega arith) c.dot_turned-sum.ensures in
    let small = half.0 in
    rw (to_z-of_z w32 s fits) (omega arith)

pub returns : goal.returns
returns c =
    let s = c.dot_turned-sum.result in
    let fits : FitsSigned w32 s = search rules in
    let out : FitsSigned w16 c.half_round.result = search rules in
    let half = half_turned c.args.coefficients.now c.args.line.now c.args.at c.requires.bounded c.args.at s c.requires.some (omega arith) c.dot_turned-sum.ensures in
    let rounded = rw (to_z-of_z w32 s fits) at c.half_round.ensures in
    to_z-of_z w16 c.half_round.result out ∙ rounded _ half.1
