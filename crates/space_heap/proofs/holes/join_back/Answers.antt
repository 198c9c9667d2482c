-- A hole that begins at the end is the first of those from there on.
use Rattle.std.proofs.Common.{◌≡◌, ℕ, ◌<◌, ◌++◌, List, Option, None, Some, sym, subst, ◌∙◌, arith}
use Rattle.std.specs.Prelude.{ℤ}
use Rattle.space_heap.specs.declared.hole.Hole.{Hole}
use Rattle.relocate.specs.Places.{Range}
use Rattle.space_heap.specs.Holes.{AreHoles, IsBack, IsHole, IsWritten, LeadsTo, first_place, hole_end}
use Rattle.space_heap.proofs.Ends.{IsHead, head_of, back_touching, back_apart, is_next, is_not_next}
use Rattle.space_heap.proofs.Links.{hole_of, read_hole}
use Rattle.space_heap.proofs.holes.join_back.Goals as goal

module _ (slots : List (Option ℤ)) (next : Option ℕ) (end : ℕ) (right : List Range) (leads : LeadsTo slots next right) (is : next ≡ Some end) where
  head : IsHead right end
  head = head_of right end (sym leads.3 ∙ is)

  abbrev first_hole : Hole
  first_hole = hole_of head.hole (first_place head.others None)

  its : IsHole first_hole × IsWritten slots first_hole
  its = read_hole slots leads.0 leads.1 head.hole head.others (subst (λ hs. AreHoles slots leads.0 (leads.1 ++ hs)) head.is leads.2)

  here : first_hole.place ≡ end
  here = head.here

  activating : (g : Hole) (to : ℕ) → g ≡ first_hole → to ≡ hole_end g → IsBack slots right end (record { to = to; behind = g.next })
  activating g to same e =
      subst (λ (k : ℕ). IsBack slots right end (record { to = k; behind = g.next })) (sym e)
      (subst (λ (h : Hole). IsBack slots right end (record { to = hole_end h; behind = h.next })) (sym same) (back_touching slots leads.0 leads.1 right leads.2 end head))

  ends : (g : Hole) → g ≡ first_hole → hole_end g < 4294967296
  ends g same = let inside = its.0.block.inside in subst (λ (h : Hole). hole_end h < 4294967296) (sym same) (omega arith)

pub read-hole-requires : goal.read-hole-requires
read-hole-requires c =
    let slots = c.args.rest.now.slots in let known = c.requires.next.0 in let is = is_next c.args.next c.args.end (sym c.eq.ensures ∙ c.if-eq.true) in
    let read = its slots c.args.next c.args.end known.0 known.1 is in
    record { written = (first_hole slots c.args.next c.args.end known.0 known.1 is, here slots c.args.next c.args.end known.0 known.1 is, read.0, read.1) }

pub end-requires : goal.end-requires
end-requires c =
    let slots = c.args.rest.now.slots in let known = c.requires.next.0 in let is = is_next c.args.next c.args.end (sym c.eq.ensures ∙ c.if-eq.true) in
    let read = its slots c.args.next c.args.end known.0 known.1 is in
    ends slots c.args.next c.args.end known.0 known.1 is c.read-hole.result
    (c.read-hole.ensures.hole (first_hole slots c.args.next c.args.end known.0 known.1 is) (here slots c.args.next c.args.end known.0 known.1 is) read.0 read.1)

pub returns-then-eq : goal.returns-then-eq
returns-then-eq c = λ right leads.
    let slots = c.args.rest.now.slots in let is = is_next c.args.next c.args.end (sym c.eq.ensures ∙ c.if-eq.true) in
    let read = its slots c.args.next c.args.end right leads is in
    activating slots c.args.next c.args.end right leads is c.read-hole.result c.end.result
    (c.read-hole.ensures.hole (first_hole slots c.args.next c.args.end right leads is) (here slots c.args.next c.args.end right leads is) read.0 read.1) c.end.ensures

pub returns-else-eq : goal.returns-else-eq
returns-else-eq c = λ right leads.
    back_apart c.args.rest.now.slots leads.0 leads.1 right leads.2 c.args.end c.args.next leads.3 c.requires.next.1
    (is_not_next c.args.next c.args.end (sym c.eq.ensures ∙ c.if-eq.false)) c.requires.end.0 c.requires.end.1
