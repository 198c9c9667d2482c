-- The new block is held with the others.
use Rattle.std.proofs.Common.{◌++◌, [], List, sym, subst, ap, arith, ◌∙◌}
use Rattle.std.proofs.lemmas.List.{append-nil}
use Rattle.space_raw.specs.Span.{Span, Extent}
use Rattle.space_heap.specs.Maps.{Holds}
use Rattle.memory_trace.specs.Held.{AreOf}
use Rattle.memory_trace.proofs.HeldLemmas.{ranges, ranges_around, of_with}
use Rattle.memory_trace.proofs.desk.Desk.take.Goals as goal

pub invariant_of-self : goal.invariant_of-self
invariant_of-self c =
    let xs = c.self.inside.held.items in let heap = c.self.inside.heap in let block = c.in-Some.block in let told = c.in-Some.ensures in
    let items = c.push_reserved.ensures.items in let stays = told.stays.0 in
    let before : Holds heap (ranges xs ++ []) = subst (λ rs. Holds heap rs) (sym (append-nil (ranges xs))) c.self.invariant.0 in
    let all : AreOf c.take.new.self.region (xs ++ []) = subst (λ (ys : List Span). AreOf c.take.new.self.region ys) (sym (append-nil xs)) (subst (λ (g : Extent). AreOf g xs) (sym stays) c.self.invariant.1) in (
      subst (λ rs. Holds c.take.new.self rs) (sym (ap ranges items ∙ ranges_around xs block [])) (told.taken (ranges xs) [] before),
      subst (λ (ys : List Span). AreOf c.take.new.self.region ys) (sym items) (of_with c.take.new.self.region xs block [] (told.block.0 ∙ sym stays) all),
      (let room = c.self.invariant.2 in let kept = c.push_reserved.ensures.capacity in omega arith),
    )
