use Rattle.std.proofs.Common.{arith}
use Rattle.scratch_group.proofs.Tables.{past_end}
use Rattle.scratch_group.proofs.bases.put_base.Goals as goal

pub returns-else-k-len : goal.returns-else-k-len
returns-else-k-len c = past_end c.args.table.now c.args.k c.args.base (omega (arith, c.len.ensures.value, c.if-k-len.false))
