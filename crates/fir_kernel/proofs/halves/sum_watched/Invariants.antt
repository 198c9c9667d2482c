use Rattle.std.proofs.Common.{◌≡◌, ◌*◌, length}
use Rattle.fir_kernel.specs.Halves.{AreHalves}
use Rattle.fir_kernel.specs.HalfLanes.{BeginWithSums}
use Rattle.fir_kernel.proofs.halves.sum_watched.Given as goal

abbrev pub invariant-loop-block : goal.invariant-loop-block
invariant-loop-block l = record {
  size : length l.sums ≡ length l.fn.sums;
  halves : AreHalves l.sums;
  sums : BeginWithSums l.coefficients l.line l.first (16 * l.block) l.sums;
}
