-- The block is back, or wasn't taken.
use Rattle.std.proofs.Common.{[], sym, subst, ◌∙◌}
use Rattle.space_heap.specs.Maps.{HeapState, Holds}
use Rattle.space_heap.proofs.heap.tests.a_heap_is_six_fields.Goals.{in-Some, in-None}
use Rattle.space_heap.proofs.heap.tests.a_heap_is_six_fields.Goals as goal

pub close-requires : goal.close-requires
close-requires g c = elim c.match-take.branch [
  | in-Some w ↦
      record { back = subst (λ (v : HeapState). Holds v []) (sym w.heap-is) (w.give.ensures.taken [] [] (w.in-Some.ensures.taken [] [] c.of_eight_words-heap.ensures.free.1)) }
  | in-None w ↦ record { back = subst (λ (v : HeapState). Holds v []) (sym (w.heap-is ∙ w.in-None.ensures.none)) c.of_eight_words-heap.ensures.free.1 }
]
