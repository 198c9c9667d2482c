use Rattle.std.proofs.Common.{◌+◌, ◌*◌, ◌∙◌, arith}
use Rattle.fir_kernel.proofs.HalfLanes.{more_sums}
use Rattle.fir_kernel.proofs.halves.sum_watched.Goals as goal

pub loop-block-preserved : goal.loop-block-preserved
loop-block-preserved c =
    let after = c.sum_sixteen.ensures in
    let i = c.loop-block.invariant in
    let at = 16 * c.loop-block.block in
    record {
      size = after.size ∙ i.size;
      halves = after.halves;
      sums = more_sums c.args.coefficients.now c.args.line.now c.loop-block.sums c.sum_sixteen.new.sums c.args.first at 16 at (16 * (c.loop-block.block + 1)) (c.args.first + at)
          (omega arith) (omega arith) (omega arith) i.sums after;
    }
