use Rattle.std.proofs.Common.{◌≤◌, ◌-◌}
use Rattle.alg_g711.specs.Least.{HasBitsPast}
use Rattle.alg_g711.proofs.Shifts.{below_leading}
use Rattle.alg_g711.proofs.companding.bits_left_out.Goals as goal

found : (c : goal.After-ilog2) → (4 ≤ c.ilog2.result) × HasBitsPast c.args.magnitude (c.ilog2.result - 4)
found c = below_leading c.args.magnitude c.ilog2.result c.requires c.ilog2.ensures.power_le c.ilog2.ensures.next_power_gt

pub overflow_sub-result : goal.overflow_sub-result
overflow_sub-result c = (found c).0

pub returns : goal.returns
returns c = (found c).1
