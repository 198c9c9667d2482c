use Rattle.std.proofs.Common.{◌≤◌, max, subst, arith}
use Rattle.alg_g711.specs.declared.companding.Law.TheVariants.{A}
use Rattle.alg_g711.specs.Least.{HasBitsPast}
use Rattle.alg_g711.proofs.Shifts.{IsNumber, a_number, past_finest}
use Rattle.alg_g711.proofs.companding.a_interval_alone.Goals as goal

bits : (c : goal.After-bits_left_out-bits) → HasBitsPast (max c.args.magnitude 256) c.bits_left_out-bits.result
bits c = subst (λ n. HasBitsPast n c.bits_left_out-bits.result) c.max-past_first.ensures c.bits_left_out-bits.ensures

number : (c : goal.After-bits_left_out-bits) → IsNumber A c.args.magnitude c.bits_left_out-bits.result 64
number c = a_number c.args.magnitude c.bits_left_out-bits.result c.requires (bits c)

finest : (c : goal.After-bits_left_out-bits) → 4 ≤ c.bits_left_out-bits.result
finest c = past_finest c.args.magnitude c.bits_left_out-bits.result (bits c)

pub overflow_mul-result : goal.overflow_mul-result
overflow_mul-result c = let n = number c in omega (arith, n.few)

pub overflow_shr-result : goal.overflow_shr-result
overflow_shr-result c = let n = number c in omega (arith, n.few)

pub overflow_add-result : goal.overflow_add-result
overflow_add-result c = let n = number c in let f = finest c in omega (arith, n.few, n.within, f)

pub returns-clause-number : goal.returns-clause-number
returns-clause-number c = let n = number c in let f = finest c in omega (arith, n.here, n.enough, f)

pub returns-clause-within : goal.returns-clause-within
returns-clause-within c = let n = number c in let f = finest c in omega (arith, n.within, n.enough, f)
