-- Where no block is taken, every word is in the rest.
use Rattle.std.proofs.Common.{[], sym, subst}
use Rattle.space_heap.specs.Maps.{HeapState, Holds}
use Rattle.space_heap.proofs.MapLemmas.{whole_rest}
use Rattle.space_heap.proofs.heap.Heap.close.Goals as goal

pub close_rest-requires-clause-there : goal.close_rest-requires-clause-there
close_rest-requires-clause-there g c =
    let heap = c.self.inside in
    let map = subst (λ (v : HeapState). Holds v []) (sym c.self.view_is) c.requires.back in
    whole_rest heap.region.size heap.rest.slots c.self.invariant.long map.free
