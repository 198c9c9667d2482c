use Rattle.std.proofs.Common.{◌*◌, ◌+◌, ◌/◌, ◌^◌}
use Rattle.alg_g711.specs.Least.{IsLeast}
use Rattle.alg_g711.proofs.companding.least_number.Given as goal

abbrev pub invariant-loop-segment : goal.invariant-loop-segment
invariant-loop-segment l = IsLeast l.least l.segment (λ k. 16 * k + l.magnitude / 2 ^ (l.finest + k))
