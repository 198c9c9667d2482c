use Rattle.std.proofs.Common.{w16, arith}
use Rattle.std.proofs.lemmas.Int.{to_z-of_z}
use Rattle.fir_kernel.proofs.halves.add_product.Goals as goal

pub returns-clause-sums : goal.returns-clause-sums
returns-clause-sums c i v b e = rw (to_z-of_z w16 c.args.coefficient c.ranges.coefficient) at (c.loop-i.invariant.done i v (omega arith) e)
