-- The blocks that are left are those that are taken.
use Rattle.std.proofs.Common.{map, vec_len}
use Rattle.space_heap.specs.Maps.{Holds, range_of}
use Rattle.memory_trace.specs.Held.{AreOf}
use Rattle.memory_trace.proofs.desk.Desk.close.Given as goal

abbrev pub invariant-loop-block : goal.invariant-loop-block
invariant-loop-block l = Holds l.heap (map range_of l.held.items) × AreOf l.heap.region l.held.items

abbrev pub decreases-loop-block : goal.decreases-loop-block
decreases-loop-block l = vec_len l.held
