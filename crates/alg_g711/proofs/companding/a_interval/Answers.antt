use Rattle.std.proofs.Common.{arith}
use Rattle.alg_g711.specs.declared.companding.Law.TheVariants.{A}
use Rattle.alg_g711.proofs.Shifts.{a_found, IsFound}
use Rattle.alg_g711.proofs.companding.a_interval.Goals as goal

found : (c : goal.After-least_number) → IsFound A c.args.magnitude c.least_number.result 0
found c = a_found c.args.magnitude c.least_number.result c.requires c.least_number.ensures

pub returns-clause-number : goal.returns-clause-number
returns-clause-number c = let f = found c in omega arith

pub returns-clause-within : goal.returns-clause-within
returns-clause-within c = let f = found c in omega arith
