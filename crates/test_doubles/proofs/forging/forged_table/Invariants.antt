use Rattle.std.proofs.Common.{◌≡◌, length}
use Rattle.test_doubles.proofs.forging.forged_table.Given as goal

abbrev pub invariant-loop-k : goal.invariant-loop-k
invariant-loop-k l = length l.table ≡ length l.fn.mem.table.now
