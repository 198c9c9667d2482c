-- The i-th block is held at its new place.
use Rattle.std.proofs.Common.{◌≡◌, ◌<◌, ◌++◌, ◌∷◌, List, suc, take, drop, length, sym, subst, ap, arith, ◌∙◌}
use Rattle.space_raw.specs.Span.{Span, Extent}
use Rattle.space_heap.specs.Maps.{Holds}
use Rattle.memory_trace.specs.Held.{AreOf}
use Rattle.memory_trace.proofs.HeldLemmas.{ranges, ranges_around, of_around, of_with, around, put_back_in, as_held, is_block}
use Rattle.memory_trace.proofs.desk.Desk.lower.Goals as goal

pub lower-block-requires-clause-region : goal.lower-block-requires-clause-region
lower-block-requires-clause-region c =
    let xs = c.self.inside.held.items in let i = c.args.i in let p = c.remove-block.result in let g = c.self.inside.heap.region in let lt : i < length xs = omega arith in
    (of_around g (take i xs) p (drop (suc i) xs) (subst (λ (ys : List Span). AreOf g ys) (around xs i p lt c.remove-block.ensures.value) c.self.invariant.1)).0

pub lower-block-requires-clause-block : goal.lower-block-requires-clause-block
lower-block-requires-clause-block c =
    let xs = c.self.inside.held.items in let i = c.args.i in let lt : i < length xs = omega arith in
    is_block c.self.inside.heap xs i c.remove-block.result lt c.remove-block.ensures.value c.self.invariant.0

pub invariant_of-self : goal.invariant_of-self
invariant_of-self c =
    let xs = c.self.inside.held.items in let i = c.args.i in let p = c.remove-block.result in let g = c.self.inside.heap.region in let lt : i < length xs = omega arith in
    let q = c.lower-block.result in let told = c.lower-block.ensures in
    let held = as_held c.self.inside.heap xs i p lt c.remove-block.ensures.value c.self.invariant.0 in
    let both = of_around g (take i xs) p (drop (suc i) xs) (subst (λ (ys : List Span). AreOf g ys) (around xs i p lt c.remove-block.ensures.value) c.self.invariant.1) in
    let items : c.insert.new.self.items ≡ take i xs ++ q ∷ drop (suc i) xs = c.in-Ok.ensures.items ∙ put_back_in xs c.remove-block.new.self.items i q lt c.remove-block.ensures.items in (
      subst (λ rs. Holds c.lower-block.new.self rs) (sym (ap ranges items ∙ ranges_around (take i xs) q (drop (suc i) xs))) (told.taken (ranges (take i xs)) (ranges (drop (suc i) xs)) held),
      subst (λ (ys : List Span). AreOf c.lower-block.new.self.region ys) (sym items)
          (of_with c.lower-block.new.self.region (take i xs) q (drop (suc i) xs) (told.words.1 ∙ both.0 ∙ sym told.stays) (subst (λ (r : Extent). AreOf r (take i xs ++ drop (suc i) xs)) (sym told.stays) both.1)),
      (let room = c.self.invariant.2 in let kept = c.remove-block.ensures.capacity in let more = c.in-Ok.ensures.capacity in omega arith),
    )
