-- The free words are those of the rest, and all others are taken.
use Rattle.std.proofs.Common.{◌≡◌, ◌+◌, sym, subst, ap, ◌∙◌}
use Rattle.std.specs.Prelude.{count_by, sum_by}
use Rattle.relocate.specs.Places.{Range}
use Rattle.space_heap.specs.Maps.{HeapState, Holds, free_beside}
use Rattle.space_heap.proofs.Counts.{free_and_taken}
use Rattle.space_heap.proofs.heap.Heap.free.Goals as goal

pub returns-clause-taken : goal.returns-clause-taken
returns-clause-taken g c =
    let heap = c.self.inside in
    λ taken holds.
    let map = subst (λ (v : HeapState). Holds v taken) (sym c.self.view_is) holds in
    let counted : heap.free ≡ count_by (λ mark. mark) (free_beside heap.region.size taken) = c.self.invariant.counted ∙ ap (λ marks. count_by (λ mark. mark) marks) map.free in
    subst (λ (v : HeapState). heap.free + sum_by (λ (r : Range). r.size) taken ≡ v.region.size) c.self.view_is
    (ap (λ n. n + sum_by (λ (r : Range). r.size) taken) counted ∙ free_and_taken heap.region.size taken map.placed)
