-- The block goes out of the memory map.
use Rattle.std.proofs.Common.{◌++◌, ◌∷◌, sym, subst, ap, ◌∙◌, arith}
use Rattle.space_heap.specs.Maps.{HeapState, Holds, range_of}
use Rattle.space_heap.specs.Holes.{in_rest}
use Rattle.space_heap.proofs.Counts.{there_few, there_less}
use Rattle.space_heap.proofs.MapLemmas.{agree, same_marks, given_blocks, given_agrees}
use Rattle.space_heap.proofs.heap.Heap.give.Goals as goal

pub overflow_add-self : goal.overflow_add-self
overflow_add-self g c =
    let heap = c.self.inside in let old = heap.rest.slots in let new = c.put_back.new.rest.slots in let kept = c.put_back.ensures.rest in
    let long = c.self.invariant.long in let owner = ap (λ (v : HeapState). v.region.size) c.self.view_is in let inside = c.requires.block.inside in
    let more = there_less new old (range_of c.args.piece) (sym kept.1) (omega arith) c.put_back.ensures.parts in
    let few = there_few new in let counted = c.self.invariant.counted in let len = c.len-len.ensures.value in let most = c.self.invariant.holes.1.size.0 in record { fits = omega arith }

pub invariant_of-self : goal.invariant_of-self
invariant_of-self g c =
    let heap = c.self.inside in let old = heap.rest.slots in let new = c.put_back.new.rest.slots in let kept = c.put_back.ensures.rest in
    let long = c.self.invariant.long in let owner = ap (λ (v : HeapState). v.region.size) c.self.view_is in let inside = c.requires.block.inside in
    let more = there_less new old (range_of c.args.piece) (sym kept.1) (omega arith) c.put_back.ensures.parts in
    let counted = c.self.invariant.counted in let len = c.len-len.ensures.value in record {
      owner = kept.0 ∙ c.self.invariant.owner;
      same_size = c.self.invariant.same_size;
      long = kept.1 ∙ long;
      holes = c.put_back.ensures.holes;
      counted = omega arith;
    }

pub returns-clause-taken : goal.returns-clause-taken
returns-clause-taken g c =
    let heap = c.self.inside in let old = heap.rest.slots in let new = c.put_back.new.rest.slots in let r = range_of c.args.piece in let words = heap.region.size in
    λ before after holds.
    let map = subst (λ (v : HeapState). Holds v (before ++ r ∷ after)) (sym c.self.view_is) holds in
    let same = agree words old (before ++ r ∷ after) c.self.invariant.long map.free in
    record {
      placed = given_blocks words before after (in_rest old) (in_rest new) r c.put_back.ensures.parts map.placed same;
      free = same_marks words new (before ++ after) (c.put_back.ensures.rest.1 ∙ c.self.invariant.long)
          (given_agrees words before after (in_rest old) (in_rest new) r c.put_back.ensures.parts map.placed same);
    }
