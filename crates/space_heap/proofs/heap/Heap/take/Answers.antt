-- The least place of free words is the least place among the blocks.
use Rattle.std.proofs.Common.{◌≡◌, ℕ, ◌<◌, ◌%◌, ◌++◌, ◌∷◌, sym, subst, ap, arith, ◌∙◌, Some, None}
use Rattle.std.specs.Option.{option_map}
use Rattle.space_raw.specs.Span.{Span}
use Rattle.relocate.specs.Places.{least_place, placed_size}
use Rattle.space_heap.specs.Maps.{HeapState, Holds, IsBlock, range_of}
use Rattle.space_heap.specs.Holes.{in_rest}
use Rattle.space_heap.proofs.Counts.{there_less}
use Rattle.space_heap.proofs.Mends.{inside}
use Rattle.space_heap.proofs.MapLemmas.{agree, same_marks, taken_blocks, taken_agrees}
use Rattle.space_heap.proofs.PlaceLemmas.{is_least_place, is_no_place}
use Rattle.space_heap.proofs.Words.{in_length}
use Rattle.space_heap.proofs.heap.Heap.take.Goals as goal

pub returns-in_err-fit-clause-place : goal.returns-in_err-fit-clause-place
returns-in_err-fit-clause-place g c =
    let heap = c.self.inside in let slots = heap.rest.slots in let words = heap.region.size in let size = c.next_multiple_of-size.result in let align = c.args.align in
    λ taken holds.
    let map = subst (λ (v : HeapState). Holds v taken) (sym c.self.view_is) holds in let long = c.self.invariant.long in
    let same = agree words slots taken long map.free in
    let told = c.next_multiple_of-size.ensures in let wanted = c.requires.words.0 in let low = told.lower_bound in
    let some : 0 < size = omega arith in
    let nowhere : None ≡ least_place words taken size align =
    is_no_place words taken size align (in_rest slots) (λ k free. let lt = in_length slots k free in omega arith) map.placed same some c.requires.align.0 c.in_err-fit.ensures.none in
    subst (λ (v : HeapState). option_map (λ (p : Span). p.place) c.from_residual.result ≡ least_place v.region.size taken (placed_size c.args.words) align) c.self.view_is
    (ap (option_map (λ (p : Span). p.place)) c.from_residual.ensures ∙ nowhere ∙ ap (λ n. least_place words taken n align) told.value)

pub overflow_sub-self : goal.overflow_sub-self
overflow_sub-self g c =
    let heap = c.self.inside in let old = heap.rest.slots in let new = c.carve-block.new.rest.slots in let size = c.next_multiple_of-size.result in let fit = c.in_ok-fit.fit in let is = c.in_ok-fit.ensures.fit in
    let told = c.next_multiple_of-size.ensures in let wanted = c.requires.words.0 in let bound = told.lower_bound in let some : 0 < size = omega arith in
    let made = c.carve-block.ensures.block in let end = inside old heap.first size fit is some told.multiple in let high = is.high in let kept = c.carve-block.ensures.rest in
    let at = made.1 in let span = made.2 in
    let less = there_less old new (range_of c.carve-block.result) kept.1 (omega arith) c.carve-block.ensures.parts in
    let counted = c.self.invariant.counted in omega arith

pub invariant_of-self : goal.invariant_of-self
invariant_of-self g c =
    let heap = c.self.inside in let old = heap.rest.slots in let new = c.carve-block.new.rest.slots in let size = c.next_multiple_of-size.result in let fit = c.in_ok-fit.fit in let is = c.in_ok-fit.ensures.fit in
    let told = c.next_multiple_of-size.ensures in let wanted = c.requires.words.0 in let bound = told.lower_bound in let some : 0 < size = omega arith in
    let made = c.carve-block.ensures.block in let end = inside old heap.first size fit is some told.multiple in let high = is.high in let kept = c.carve-block.ensures.rest in
    let at = made.1 in let span = made.2 in
    let less = there_less old new (range_of c.carve-block.result) kept.1 (omega arith) c.carve-block.ensures.parts in
    let counted = c.self.invariant.counted in record {
      owner = kept.0 ∙ c.self.invariant.owner;
      same_size = c.self.invariant.same_size;
      long = kept.1 ∙ c.self.invariant.long;
      holes = (_, c.carve-block.ensures.holes.holes);
      counted = omega arith;
    }

pub returns-clause-place : goal.returns-clause-place
returns-clause-place g c =
    let heap = c.self.inside in let slots = heap.rest.slots in let words = heap.region.size in let size = c.next_multiple_of-size.result in let align = c.args.align in
    let fit = c.in_ok-fit.fit in
    λ taken holds.
    let map = subst (λ (v : HeapState). Holds v taken) (sym c.self.view_is) holds in let long = c.self.invariant.long in
    let same = agree words slots taken long map.free in
    let told = c.next_multiple_of-size.ensures in let wanted = c.requires.words.0 in let low = told.lower_bound in
    let some : 0 < size = omega arith in
    let here : Some fit.place ≡ least_place words taken size align =
    is_least_place words taken size align (in_rest slots) (λ k free. let lt = in_length slots k free in omega arith) map.placed same some c.requires.align.0 fit.place c.in_ok-fit.ensures.least in
    subst (λ (v : HeapState). Some c.carve-block.result.place ≡ least_place v.region.size taken (placed_size c.args.words) align) c.self.view_is
    (ap (λ (p : ℕ). Some p) c.carve-block.ensures.block.1 ∙ here ∙ ap (λ n. least_place words taken n align) told.value)

pub returns-clause-taken : goal.returns-clause-taken
returns-clause-taken g c =
    let heap = c.self.inside in let old = heap.rest.slots in let new = c.carve-block.new.rest.slots in let size = c.next_multiple_of-size.result in let fit = c.in_ok-fit.fit in let is = c.in_ok-fit.ensures.fit in
    let told = c.next_multiple_of-size.ensures in let wanted = c.requires.words.0 in let bound = told.lower_bound in let some : 0 < size = omega arith in
    let made = c.carve-block.ensures.block in let end = inside old heap.first size fit is some told.multiple in let high = is.high in let long = c.self.invariant.long in
    let at = made.1 in let span = made.2 in let words = heap.region.size in let r = range_of c.carve-block.result in let parts = c.carve-block.ensures.parts in
    let is_block : IsBlock words r = record {
      some = omega arith;
      place = ap (λ n. n % 4) at ∙ is.unit;
      size = ap (λ n. n % 4) span ∙ told.multiple;
      inside = omega arith;
    } in
    λ before after holds.
    let map = subst (λ (v : HeapState). Holds v (before ++ after)) (sym c.self.view_is) holds in
    let same = agree words old (before ++ after) long map.free in
    record {
      placed = taken_blocks words before after (in_rest old) (in_rest new) r parts is_block map.placed same;
      free = same_marks words new (before ++ r ∷ after) (c.carve-block.ensures.rest.1 ∙ long) (taken_agrees words before after (in_rest old) (in_rest new) r parts is_block map.placed same);
    }
