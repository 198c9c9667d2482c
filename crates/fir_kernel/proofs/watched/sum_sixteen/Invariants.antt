use Rattle.std.proofs.Common.{◌+◌, ◌*◌, ◌%◌, length, map, to_z, w32}
use Rattle.fir_kernel.specs.Watched.{HaveEvery}
use Rattle.fir_kernel.proofs.watched.sum_sixteen.Given as goal

abbrev pub invariant-loop-tap : goal.invariant-loop-tap
invariant-loop-tap l = record {
  a : HaveEvery l.coefficients l.line l.first l.tap (map (to_z w32) l.a);
  b : HaveEvery l.coefficients l.line (l.first + 1) l.tap (map (to_z w32) l.b);
  c : HaveEvery l.coefficients l.line (l.first + 8) l.tap (map (to_z w32) l.c);
  d : HaveEvery l.coefficients l.line (l.first + 9) l.tap (map (to_z w32) l.d);
}

abbrev pub invariant-loop-group : goal.invariant-loop-group
invariant-loop-group l = record {
  a : HaveEvery l.coefficients l.line l.first (length l.coefficients % 8 + 8 * l.group) (map (to_z w32) l.a);
  b : HaveEvery l.coefficients l.line (l.first + 1) (length l.coefficients % 8 + 8 * l.group) (map (to_z w32) l.b);
  c : HaveEvery l.coefficients l.line (l.first + 8) (length l.coefficients % 8 + 8 * l.group) (map (to_z w32) l.c);
  d : HaveEvery l.coefficients l.line (l.first + 9) (length l.coefficients % 8 + 8 * l.group) (map (to_z w32) l.d);
}
