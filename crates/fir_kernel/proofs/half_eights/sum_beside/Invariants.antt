use Rattle.std.proofs.Common.{◌+◌, ◌*◌, ◌%◌, length, map, to_z, w32}
use Rattle.fir_kernel.specs.HalfEights.{HaveTaps}
use Rattle.fir_kernel.proofs.half_eights.sum_beside.Given as goal

abbrev pub invariant-loop-pair : goal.invariant-loop-pair
invariant-loop-pair l = record {
  a : HaveTaps l.coefficients l.line l.first (length l.coefficients % 2 + 2 * l.pair) (map (to_z w32) l.a);
  b : HaveTaps l.coefficients l.line (l.first + 8) (length l.coefficients % 2 + 2 * l.pair) (map (to_z w32) l.b);
  c : HaveTaps l.coefficients l.line (l.first + 16) (length l.coefficients % 2 + 2 * l.pair) (map (to_z w32) l.c);
  d : HaveTaps l.coefficients l.line (l.first + 24) (length l.coefficients % 2 + 2 * l.pair) (map (to_z w32) l.d);
}
