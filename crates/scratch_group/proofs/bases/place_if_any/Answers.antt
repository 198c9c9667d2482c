use Rattle.std.proofs.Common.{arith}
use Rattle.scratch_group.proofs.bases.place_if_any.Goals as goal

pub returns-else-k-len : goal.returns-else-k-len
returns-else-k-len c lt = absurd (omega (arith, lt, c.len.ensures.value, c.if-k-len.false))
