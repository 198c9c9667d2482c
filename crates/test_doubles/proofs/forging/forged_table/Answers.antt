use Rattle.std.proofs.Common.{length, ap, ◌∙◌}
use Rattle.mem_rec.proofs.Bases.{length-with_base}
use Rattle.test_doubles.proofs.forging.forged_table.Goals as goal

pub loop-k-preserved : goal.loop-k-preserved
loop-k-preserved c = ap length c.with_base-table.ensures ∙ length-with_base _ _ _ ∙ c.loop-k.invariant
