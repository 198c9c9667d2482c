-- There are two words at least.
use Rattle.std.proofs.Common.{arith}
use Rattle.space_heap.proofs.Words.{is_run}
use Rattle.space_heap.proofs.holes.leave_hole.Goals as goal

pub write-requires-clause-there : goal.write-requires-clause-there
write-requires-clause-there c =
    let order = c.requires.order in let units = c.requires.units in
    is_run c.args.rest.now.slots c.args.from 2 (omega arith) (λ k low high. c.requires.there k low (omega arith))
