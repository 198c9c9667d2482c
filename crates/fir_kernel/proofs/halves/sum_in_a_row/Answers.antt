use Rattle.std.proofs.Common.{length, subst}
use Rattle.fir_kernel.specs.HalfLanes.{BeginWithSums}
use Rattle.fir_kernel.proofs.HalfLanes.{as_row}
use Rattle.fir_kernel.proofs.halves.sum_in_a_row.Goals as goal

pub returns-clause-sums : goal.returns-clause-sums
returns-clause-sums c =
    let cs = c.args.coefficients.now in
    let line = c.args.line.now in
    let sums = c.sum_fours.new.sums in
    as_row cs line sums c.args.first (length c.args.sums.now)
    (subst (λ n. BeginWithSums cs line c.args.first n sums) c.sum_blocks-done.ensures.size c.sum_fours.ensures.sums)
