use Rattle.std.proofs.Common.{◌≡◌, ◌+◌, ◌*◌, length}
use Rattle.fir_kernel.specs.Halves.{AreHalves}
use Rattle.fir_kernel.specs.HalfLanes.{BeginWithSums}
use Rattle.fir_kernel.proofs.halves.sum_fours.Given as goal

abbrev pub invariant-loop-four : goal.invariant-loop-four
invariant-loop-four l = record {
  size : length l.sums ≡ length l.fn.sums;
  halves : AreHalves l.sums;
  sums : BeginWithSums l.coefficients l.line l.first (l.done + 4 * l.four) l.sums;
}
