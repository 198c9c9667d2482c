use Rattle.std.proofs.Common.{arith}
use Rattle.space_heap.proofs.heap.Heap.new.Goals as goal

pub returns-then-not-is_space_size-clause-bad_size : goal.returns-then-not-is_space_size-clause-bad_size
returns-then-not-is_space_size-clause-bad_size c = grind arith
