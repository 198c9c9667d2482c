use Rattle.std.proofs.Common.{◌+◌, ◌-◌, ◌*◌, ◌∙◌, length, arith}
use Rattle.fir_kernel.proofs.HalfLanes.{more_sums}
use Rattle.fir_kernel.proofs.halves.sum_fours.Goals as goal

pub loop-four-preserved : goal.loop-four-preserved
loop-four-preserved c =
    let after = c.sum_four.ensures in
    let i = c.loop-four.invariant in
    let at = c.args.done + 4 * c.loop-four.four in
    record {
      size = after.size ∙ i.size;
      halves = after.halves;
      sums = more_sums c.args.coefficients.now c.args.line.now c.loop-four.sums c.sum_four.new.sums c.args.first at 4 at (c.args.done + 4 * (c.loop-four.four + 1)) (c.args.first + at)
          (omega arith) (omega arith) (omega arith) i.sums after;
    }

pub returns-then-sums-done-gt0-clause-sums : goal.returns-then-sums-done-gt0-clause-sums
returns-then-sums-done-gt0-clause-sums c =
    let n = length c.args.sums.now in
    let size = c.loop-four.invariant.size in
    more_sums c.args.coefficients.now c.args.line.now c.loop-four.sums c.sum_four-then-sums-done-gt0.new.sums c.args.first (c.args.done + 4 * c.loop-four.four) 4 (length c.loop-four.sums - 4) n
    (c.args.first + (length c.loop-four.sums - 4)) (omega arith) (omega arith) (omega arith) c.loop-four.invariant.sums c.sum_four-then-sums-done-gt0.ensures
