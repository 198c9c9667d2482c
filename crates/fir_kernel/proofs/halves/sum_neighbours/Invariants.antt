use Rattle.std.proofs.Common.{◌*◌, length}
use Rattle.fir_kernel.specs.Halves.{AreHalfSums, AreHalves}
use Rattle.fir_kernel.proofs.halves.sum_neighbours.Given as goal

abbrev pub invariant-loop-pair : goal.invariant-loop-pair
invariant-loop-pair l = record {
  halves : AreHalves l.sums;
  sums : AreHalfSums l.coefficients l.line l.first 1 (2 * l.pair) (length l.sums) l.sums;
}
