-- No hole before the next one has a place.
use Rattle.std.proofs.Common.{List, length}
use Rattle.relocate.specs.Places.{Range}
use Rattle.space_heap.proofs.Finds.{AllMiss}
use Rattle.space_heap.proofs.Links.{IsAt, left_from}
use Rattle.space_heap.proofs.find.find.Given as goal

abbrev pub invariant-loop-next : goal.invariant-loop-next
invariant-loop-next l = (left : List Range) × IsAt l.rest.slots l.fn.first left l.before l.next × AllMiss left l.words l.align

abbrev pub decreases-loop-next : goal.decreases-loop-next
decreases-loop-next l = left_from (length l.rest.slots) l.next
