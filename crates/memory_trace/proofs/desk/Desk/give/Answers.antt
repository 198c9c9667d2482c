-- The i-th block is held no more.
use Rattle.std.proofs.Common.{◌<◌, ◌++◌, List, suc, take, drop, length, sym, subst, ap, arith, ◌∙◌}
use Rattle.space_raw.specs.Span.{Span, Extent}
use Rattle.space_heap.specs.Maps.{Holds}
use Rattle.memory_trace.specs.Held.{AreOf}
use Rattle.memory_trace.proofs.HeldLemmas.{ranges, ranges_beside, of_around, around, as_held, is_block}
use Rattle.memory_trace.proofs.desk.Desk.give.Goals as goal

pub give-requires-clause-region : goal.give-requires-clause-region
give-requires-clause-region c =
    let xs = c.self.inside.held.items in let i = c.args.i in let p = c.remove-block.result in let g = c.self.inside.heap.region in let lt : i < length xs = omega arith in
    (of_around g (take i xs) p (drop (suc i) xs) (subst (λ (ys : List Span). AreOf g ys) (around xs i p lt c.remove-block.ensures.value) c.self.invariant.1)).0

pub give-requires-clause-block : goal.give-requires-clause-block
give-requires-clause-block c =
    let xs = c.self.inside.held.items in let i = c.args.i in let lt : i < length xs = omega arith in
    is_block c.self.inside.heap xs i c.remove-block.result lt c.remove-block.ensures.value c.self.invariant.0

pub invariant_of-self : goal.invariant_of-self
invariant_of-self c =
    let xs = c.self.inside.held.items in let i = c.args.i in let p = c.remove-block.result in let g = c.self.inside.heap.region in let lt : i < length xs = omega arith in
    let held = as_held c.self.inside.heap xs i p lt c.remove-block.ensures.value c.self.invariant.0 in let items = c.remove-block.ensures.items in
    let rest = (of_around g (take i xs) p (drop (suc i) xs) (subst (λ (ys : List Span). AreOf g ys) (around xs i p lt c.remove-block.ensures.value) c.self.invariant.1)).1 in (
      subst (λ rs. Holds c.give.new.self rs) (sym (ap ranges items ∙ ranges_beside (take i xs) (drop (suc i) xs))) (c.give.ensures.taken (ranges (take i xs)) (ranges (drop (suc i) xs)) held),
      subst (λ (ys : List Span). AreOf c.give.new.self.region ys) (sym items) (subst (λ (r : Extent). AreOf r (take i xs ++ drop (suc i) xs)) (sym c.give.ensures.stays.0) rest),
      (let room = c.self.invariant.2 in let kept = c.remove-block.ensures.capacity in omega arith),
    )
