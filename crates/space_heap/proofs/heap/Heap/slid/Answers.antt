use Rattle.std.proofs.Common.{arith}
use Rattle.space_heap.proofs.heap.Heap.slid.Goals as goal

pub returns : goal.returns
returns c = grind arith
