use Rattle.std.proofs.Common.{arith}
use Rattle.alg_g711.specs.declared.companding.Law.TheVariants.{Mu}
use Rattle.alg_g711.proofs.Shifts.{mu_found, IsFound}
use Rattle.alg_g711.proofs.companding.mu_interval.Goals as goal

found : (c : goal.After-least_number) → IsFound Mu c.args.magnitude c.least_number.result 16
found c = mu_found c.args.magnitude c.least_number.result c.requires.some c.requires.few c.least_number.ensures

pub overflow_sub-result : goal.overflow_sub-result
overflow_sub-result c = let f = found c in omega arith

pub returns-clause-number : goal.returns-clause-number
returns-clause-number c = let f = found c in omega arith

pub returns-clause-within : goal.returns-clause-within
returns-clause-within c = let f = found c in omega arith
