-- The holes before the next one begin before the place, and the last of them is known.
use Rattle.std.proofs.Common.{◌≡◌, ◌<◌, List, length, MatchOption}
use Rattle.relocate.specs.Places.{Range}
use Rattle.space_heap.specs.Holes.{IsFound}
use Rattle.space_heap.proofs.Links.{IsAt, left_from}
use Rattle.space_heap.proofs.find.last_before.Given as goal

abbrev pub invariant-loop-next : goal.invariant-loop-next
invariant-loop-next l = ((left : List Range) × IsAt l.rest.slots l.fn.first left l.before l.next)
    × MatchOption l.last (l.next ≡ l.fn.first) (λ f. IsFound l.rest.slots l.fn.first f × (f.hole.place < l.place) × (f.hole.next ≡ l.next))

abbrev pub decreases-loop-next : goal.decreases-loop-next
decreases-loop-next l = left_from (length l.rest.slots) l.next
