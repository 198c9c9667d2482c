-- The last of the blocks goes back.
use Rattle.std.proofs.Common.{◌++◌, [], ◌∷◌, List, sym, subst, ap, ◌∙◌}
use Rattle.std.proofs.lemmas.List.{append-nil}
use Rattle.space_raw.specs.Span.{Span, Extent}
use Rattle.space_heap.specs.Maps.{Holds, range_of}
use Rattle.space_heap.proofs.MapLemmas.{block_out}
use Rattle.memory_trace.specs.Held.{AreOf}
use Rattle.memory_trace.proofs.HeldLemmas.{ranges, ranges_around, of_around}
use Rattle.memory_trace.proofs.desk.Desk.close.Goals as goal

pub give-requires-clause-region : goal.give-requires-clause-region
give-requires-clause-region c =
    let g = c.loop-block.heap.region in (of_around g c.pop.new.self.items c.in-Some.block [] (subst (λ (ys : List Span). AreOf g ys) c.in-Some.ensures.items c.loop-block.invariant.1)).0

pub give-requires-clause-block : goal.give-requires-clause-block
give-requires-clause-block c =
    let heap = c.loop-block.heap in let xs = c.pop.new.self.items in let p = c.in-Some.block in
    let held : Holds heap (ranges xs ++ range_of p ∷ []) = subst (λ rs. Holds heap rs) (ap ranges c.in-Some.ensures.items ∙ ranges_around xs p []) c.loop-block.invariant.0 in
    (block_out heap.region.size (ranges xs) (range_of p) [] held.placed).0

pub loop-block-preserved : goal.loop-block-preserved
loop-block-preserved c =
    let heap = c.loop-block.heap in let xs = c.pop.new.self.items in let p = c.in-Some.block in let g = heap.region in
    let held : Holds heap (ranges xs ++ range_of p ∷ []) = subst (λ rs. Holds heap rs) (ap ranges c.in-Some.ensures.items ∙ ranges_around xs p []) c.loop-block.invariant.0 in
    let rest = (of_around g xs p [] (subst (λ (ys : List Span). AreOf g ys) c.in-Some.ensures.items c.loop-block.invariant.1)).1 in (
      subst (λ rs. Holds c.give.new.self rs) (append-nil (ranges xs)) (c.give.ensures.taken (ranges xs) [] held),
      subst (λ (g' : Extent). AreOf g' xs) (sym c.give.ensures.stays.0) (subst (λ (ys : List Span). AreOf g ys) (append-nil xs) rest),
    )
