-- The free range that the block becomes a part of is one hole.
use Rattle.std.proofs.Common.{◌≡◌, ℕ, ◌+◌, List, length, Option, subst, ◌∙◌, arith, refl, sym}
use Rattle.std.specs.Prelude.{ℤ}
use Rattle.space_heap.specs.declared.holes.Front.{Front}
use Rattle.space_heap.specs.declared.holes.Back.{Back}
use Rattle.relocate.specs.Places.{Range, end_of}
use Rattle.space_heap.specs.Maps.{IsBlock, range_of}
use Rattle.space_heap.specs.Holes.{IsBack, IsFromOn, IsFront, IsTaken, LeadsTo}
use Rattle.space_heap.proofs.Returns.{leads, from_end, next_link, order_joined, joined_there, start_link, before_there, new_long, block_parts, given_holes}
use Rattle.space_heap.proofs.holes.put_behind.Goals as goal

module _ (words : List (Option ℤ)) (first : Option ℕ) (b : Range) (block : IsBlock (length words) b) (taken : IsTaken words b) (front : Front) (before : IsFront words first b.place front)
    (place len : ℕ) (at : place ≡ b.place) (long : len ≡ b.size) where
  stop : place + len ≡ end_of b
  stop = omega arith

  leading : LeadsTo words front.next before.right
  leading = leads words first b block taken front before

  from : IsFromOn (place + len) front.next
  from = subst (λ p. IsFromOn p front.next) (sym stop) (from_end words first b block taken front before)

  -- the holes behind the block, as they were found
  behind : (back : Back) → ((right : List Range) → LeadsTo words front.next right → IsBack words right (place + len) back) → IsBack words before.right (end_of b) back
  behind back all = subst (λ p. IsBack words before.right p back) stop (all before.right leading)

pub join_back-to-requires-clause-next : goal.join_back-to-requires-clause-next
join_back-to-requires-clause-next c =
    let ask = c.requires in let words = c.args.rest.now.slots in let first = c.args.first.now in let b = range_of c.args.piece in let place = c.place in let len = c.len in (
      (ask.front.right, leading words first b ask.block ask.taken c.args.front ask.front place.result len.result place.ensures.value len.ensures.value),
      from words first b ask.block ask.taken c.args.front ask.front place.result len.result place.ensures.value len.ensures.value,
    )

pub join_back-to-requires-clause-end : goal.join_back-to-requires-clause-end
join_back-to-requires-clause-end c =
    let block = c.requires.block in let at = block.place in let long = block.size in let inside = block.inside in
    let place = c.place.ensures.value in let len = c.len.ensures.value in (omega arith, omega arith)

pub leave_hole-start-requires-clause-order : goal.leave_hole-start-requires-clause-order
leave_hole-start-requires-clause-order c =
    let words = c.args.rest.now.slots in let first = c.args.first.now in let b = range_of c.args.piece in let ask = c.requires in let front = c.args.front in let back = c.join_back-to.result in
    let others = behind words first b ask.block ask.taken front ask.front c.place.result c.len.result c.place.ensures.value c.len.ensures.value back c.join_back-to.ensures in
    order_joined words first b ask.block ask.taken front ask.front back others c.absorb.new.self.slots c.args.piece.words c.absorb.ensures.words refl

pub leave_hole-start-requires-clause-units : goal.leave_hole-start-requires-clause-units
leave_hole-start-requires-clause-units c =
    let words = c.args.rest.now.slots in let first = c.args.first.now in let b = range_of c.args.piece in let ask = c.requires in let front = c.args.front in let back = c.join_back-to.result in
    let others = behind words first b ask.block ask.taken front ask.front c.place.result c.len.result c.place.ensures.value c.len.ensures.value back c.join_back-to.ensures in
    (ask.front.unit, others.unit)

pub leave_hole-start-requires-clause-there : goal.leave_hole-start-requires-clause-there
leave_hole-start-requires-clause-there c =
    let words = c.args.rest.now.slots in let first = c.args.first.now in let b = range_of c.args.piece in let ask = c.requires in let front = c.args.front in let back = c.join_back-to.result in
    let others = behind words first b ask.block ask.taken front ask.front c.place.result c.len.result c.place.ensures.value c.len.ensures.value back c.join_back-to.ensures in
    joined_there words first b ask.block ask.taken front ask.front back others c.absorb.new.self.slots c.args.piece.words c.absorb.ensures.words refl

pub leave_hole-start-requires-clause-next : goal.leave_hole-start-requires-clause-next
leave_hole-start-requires-clause-next c =
    let words = c.args.rest.now.slots in let first = c.args.first.now in let b = range_of c.args.piece in let ask = c.requires in let front = c.args.front in let back = c.join_back-to.result in
    let others = behind words first b ask.block ask.taken front ask.front c.place.result c.len.result c.place.ensures.value c.len.ensures.value back c.join_back-to.ensures in
    next_link words first b ask.block ask.taken front ask.front back others

pub relink-requires-clause-there : goal.relink-requires-clause-there
relink-requires-clause-there c =
    let words = c.args.rest.now.slots in let first = c.args.first.now in let b = range_of c.args.piece in let ask = c.requires in let front = c.args.front in let back = c.join_back-to.result in
    let others = behind words first b ask.block ask.taken front ask.front c.place.result c.len.result c.place.ensures.value c.len.ensures.value back c.join_back-to.ensures in
    before_there words first b ask.block ask.taken front ask.front back others c.absorb.new.self.slots c.args.piece.words c.absorb.ensures.words refl c.leave_hole-start.new.rest.slots c.leave_hole-start.result c.leave_hole-start.ensures.others.1 c.leave_hole-start.ensures.written c.leave_hole-start.ensures.start

pub relink-requires-clause-next : goal.relink-requires-clause-next
relink-requires-clause-next c =
    let words = c.args.rest.now.slots in let first = c.args.first.now in let b = range_of c.args.piece in let ask = c.requires in let front = c.args.front in let back = c.join_back-to.result in
    let others = behind words first b ask.block ask.taken front ask.front c.place.result c.len.result c.place.ensures.value c.len.ensures.value back c.join_back-to.ensures in
    start_link words first b ask.block ask.taken front ask.front back others c.absorb.new.self.slots c.args.piece.words c.absorb.ensures.words refl c.leave_hole-start.new.rest.slots c.leave_hole-start.result c.leave_hole-start.ensures.others.1 c.leave_hole-start.ensures.written c.leave_hole-start.ensures.start

pub returns-clause-rest : goal.returns-clause-rest
returns-clause-rest c =
    let words = c.args.rest.now.slots in let first = c.args.first.now in let b = range_of c.args.piece in let ask = c.requires in let front = c.args.front in let back = c.join_back-to.result in
    let others = behind words first b ask.block ask.taken front ask.front c.place.result c.len.result c.place.ensures.value c.len.ensures.value back c.join_back-to.ensures in
    (c.relink.ensures.region ∙ c.leave_hole-start.ensures.others.0 ∙ c.absorb.ensures.region, new_long words first b ask.block ask.taken front ask.front back others c.absorb.new.self.slots c.args.piece.words c.absorb.ensures.words refl c.leave_hole-start.new.rest.slots c.leave_hole-start.result c.leave_hole-start.ensures.others.1 c.leave_hole-start.ensures.written c.leave_hole-start.ensures.start c.relink.new.rest.slots c.relink.new.first c.relink.ensures.linked)

pub returns-clause-holes : goal.returns-clause-holes
returns-clause-holes c =
    let words = c.args.rest.now.slots in let first = c.args.first.now in let b = range_of c.args.piece in let ask = c.requires in let front = c.args.front in let back = c.join_back-to.result in
    let others = behind words first b ask.block ask.taken front ask.front c.place.result c.len.result c.place.ensures.value c.len.ensures.value back c.join_back-to.ensures in
    given_holes words first b ask.block ask.taken front ask.front back others c.absorb.new.self.slots c.args.piece.words c.absorb.ensures.words refl c.leave_hole-start.new.rest.slots c.leave_hole-start.result c.leave_hole-start.ensures.others.1 c.leave_hole-start.ensures.written c.leave_hole-start.ensures.start c.relink.new.rest.slots c.relink.new.first c.relink.ensures.linked

pub returns-clause-parts : goal.returns-clause-parts
returns-clause-parts c =
    let words = c.args.rest.now.slots in let first = c.args.first.now in let b = range_of c.args.piece in let ask = c.requires in let front = c.args.front in let back = c.join_back-to.result in
    let others = behind words first b ask.block ask.taken front ask.front c.place.result c.len.result c.place.ensures.value c.len.ensures.value back c.join_back-to.ensures in
    block_parts words first b ask.block ask.taken front ask.front back others c.absorb.new.self.slots c.args.piece.words c.absorb.ensures.words refl c.leave_hole-start.new.rest.slots c.leave_hole-start.result c.leave_hole-start.ensures.others.1 c.leave_hole-start.ensures.written c.leave_hole-start.ensures.start c.relink.new.rest.slots c.relink.new.first c.relink.ensures.linked
