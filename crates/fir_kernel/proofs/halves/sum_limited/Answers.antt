use Rattle.std.proofs.Common.{◌+◌, ◌*◌, ◌∙◌, arith}
use Rattle.fir_kernel.proofs.HalfLanes.{more_sums}
use Rattle.fir_kernel.proofs.halves.sum_limited.Goals as goal

pub loop-block-preserved : goal.loop-block-preserved
loop-block-preserved c =
    let after = c.sum_beside.ensures in
    let i = c.loop-block.invariant in
    let at = 32 * c.loop-block.block in
    record {
      size = after.size ∙ i.size;
      halves = after.halves;
      sums = more_sums c.args.coefficients.now c.args.line.now c.loop-block.sums c.sum_beside.new.sums c.args.first at 32 at (32 * (c.loop-block.block + 1)) (c.args.first + at)
          (omega arith) (omega arith) (omega arith) i.sums after;
    }
