use Rattle.std.proofs.Common.{◌+◌, ◌*◌, ◌%◌, length, map, to_z, w32}
use Rattle.fir_kernel.specs.HalfLanes.{HaveTaps}
use Rattle.fir_kernel.proofs.half_lanes.sum_four.Given as goal

abbrev pub invariant-loop-pair : goal.invariant-loop-pair
invariant-loop-pair l = HaveTaps l.coefficients l.line l.first (length l.coefficients % 2 + 2 * l.pair) (map (to_z w32) l.halves)
