use Rattle.std.proofs.Common.{◌≤◌, arith}
use Rattle.alg_g711.specs.declared.companding.Law.TheVariants.{Mu}
use Rattle.alg_g711.proofs.Shifts.{IsNumber, mu_number, past_bias}
use Rattle.alg_g711.proofs.companding.mu_interval_alone.Goals as goal

number : (c : goal.After-bits_left_out-bits) → IsNumber Mu c.args.magnitude c.bits_left_out-bits.result 32
number c = mu_number c.args.magnitude c.bits_left_out-bits.result c.requires.some c.requires.few c.bits_left_out-bits.ensures

finest : (c : goal.After-bits_left_out-bits) → 1 ≤ c.bits_left_out-bits.result
finest c = past_bias c.args.magnitude c.bits_left_out-bits.result c.requires.some c.bits_left_out-bits.ensures

pub overflow_mul-number : goal.overflow_mul-number
overflow_mul-number c = let n = number c in omega (arith, n.few)

pub overflow_shr-number : goal.overflow_shr-number
overflow_shr-number c = let n = number c in omega (arith, n.few)

pub overflow_add-number : goal.overflow_add-number
overflow_add-number c = let n = number c in omega (arith, n.few, n.within)

pub overflow_sub-result : goal.overflow_sub-result
overflow_sub-result c = let n = number c in omega (arith, n.enough, n.few)

pub returns-clause-number : goal.returns-clause-number
returns-clause-number c = let n = number c in let f = finest c in omega (arith, n.here, n.enough, f)

pub returns-clause-within : goal.returns-clause-within
returns-clause-within c = let n = number c in let f = finest c in omega (arith, n.within, n.enough, f)
