-- The words that are left of the hole are holes, and the one before leads to them.
use Rattle.std.proofs.Common.{◌≡◌, ℕ, ◌%◌, sym, subst, ap, ◌∙◌, arith, length, inr}
use Rattle.space_raw.specs.Span.{Span}
use Rattle.space_raw.proofs.Slots.{run_long}
use Rattle.relocate.specs.Places.{Range, IsSpaceSize}
use Rattle.space_heap.specs.Maps.{range_of}
use Rattle.space_heap.specs.Holes.{AreParts, in_rest}
use Rattle.space_heap.proofs.Mends.{inside, most, can_carve, units, next_link, cut_long, still_free, two_long, behind_link, two_free, start_link, before_there, new_long, block_parts, carved_holes}
use Rattle.space_heap.proofs.holes.carve.Goals as goal

same_range : (place len : ℕ) (piece : Span) → place ≡ piece.place → len ≡ length piece.words → Path Range (record { place = place; size = len }) (range_of piece)
same_range place len piece e f i = record { place = e i; size = f i }

pub carve-piece-requires-clause-there : goal.carve-piece-requires-clause-there
carve-piece-requires-clause-there c = can_carve c.args.rest.now.slots c.args.first.now c.args.words c.args.fit c.requires.fit c.requires.words.0 c.requires.words.1

pub overflow_add-place : goal.overflow_add-place
overflow_add-place c =
    let is = c.requires.fit in let high = is.high in let big = (most c.args.rest.now.slots c.args.first.now c.args.words c.args.fit is c.requires.words.0 c.requires.words.1).0 in
    let end = inside c.args.rest.now.slots c.args.first.now c.args.words c.args.fit is c.requires.words.0 c.requires.words.1 in record { fits = omega arith }

pub end-requires : goal.end-requires
end-requires c =
    let is = c.requires.fit in let big = (most c.args.rest.now.slots c.args.first.now c.args.words c.args.fit is c.requires.words.0 c.requires.words.1).0 in
    let end = inside c.args.rest.now.slots c.args.first.now c.args.words c.args.fit is c.requires.words.0 c.requires.words.1 in omega arith

pub leave_hole-behind-requires-clause-order : goal.leave_hole-behind-requires-clause-order
leave_hole-behind-requires-clause-order c =
    let old = c.args.rest.now.slots in let first = c.args.first.now in let n = c.args.words in let fit = c.args.fit in let is = c.requires.fit in let some = c.requires.words.0 in let unit = c.requires.words.1 in
    let cut = c.carve-piece.new.self.slots in let high = is.high in let e = c.end.ensures in
    let long : length cut ≡ length old = cut_long old first n fit is some unit cut c.carve-piece.ensures.rest.1 in let end = inside old first n fit is some unit in
    (omega arith, omega arith, subst IsSpaceSize (sym long) (most old first n fit is some unit))

pub leave_hole-behind-requires-clause-units : goal.leave_hole-behind-requires-clause-units
leave_hole-behind-requires-clause-units c =
    let all = units c.args.rest.now.slots c.args.first.now c.args.words c.args.fit c.requires.fit c.requires.words.0 c.requires.words.1 in (all.1, ap (λ k. k % 4) c.end.ensures ∙ all.3)

pub leave_hole-behind-requires-clause-there : goal.leave_hole-behind-requires-clause-there
leave_hole-behind-requires-clause-there c = λ k from to.
    let is = c.requires.fit in let low = is.low in let e = c.end.ensures in
    still_free c.args.rest.now.slots c.args.first.now c.args.words c.args.fit is c.requires.words.0 c.requires.words.1 c.carve-piece.new.self.slots c.carve-piece.ensures.rest.1 k (omega arith) (omega arith) (inr from)

pub leave_hole-behind-requires-clause-next : goal.leave_hole-behind-requires-clause-next
leave_hole-behind-requires-clause-next c = next_link c.args.rest.now.slots c.args.first.now c.args.words c.args.fit c.requires.fit c.requires.words.0 c.requires.words.1

pub leave_hole-start-requires-clause-order : goal.leave_hole-start-requires-clause-order
leave_hole-start-requires-clause-order c =
    let old = c.args.rest.now.slots in let first = c.args.first.now in let n = c.args.words in let fit = c.args.fit in let is = c.requires.fit in let some = c.requires.words.0 in let unit = c.requires.words.1 in
    let cut = c.carve-piece.new.self.slots in let carved = c.carve-piece.ensures.rest.1 in let two = c.leave_hole-behind.new.rest.slots in let behind = c.leave_hole-behind.result in let one = c.leave_hole-behind.ensures in
    let long = two_long old first n fit is some unit cut carved c.end.result c.end.ensures two behind one.others.1 one.written one.start in let low = is.low in let high = is.high in let end = inside old first n fit is some unit in
    (low, omega arith, subst IsSpaceSize (sym long) (most old first n fit is some unit))

pub leave_hole-start-requires-clause-units : goal.leave_hole-start-requires-clause-units
leave_hole-start-requires-clause-units c =
    let all = units c.args.rest.now.slots c.args.first.now c.args.words c.args.fit c.requires.fit c.requires.words.0 c.requires.words.1 in (all.2, all.0)

pub leave_hole-start-requires-clause-there : goal.leave_hole-start-requires-clause-there
leave_hole-start-requires-clause-there c =
    let old = c.args.rest.now.slots in let first = c.args.first.now in let n = c.args.words in let fit = c.args.fit in let is = c.requires.fit in let some = c.requires.words.0 in let unit = c.requires.words.1 in
    let cut = c.carve-piece.new.self.slots in let carved = c.carve-piece.ensures.rest.1 in let two = c.leave_hole-behind.new.rest.slots in let behind = c.leave_hole-behind.result in let one = c.leave_hole-behind.ensures in
    two_free old first n fit is some unit cut carved c.end.result c.end.ensures two behind one.others.1 one.written one.start

pub leave_hole-start-requires-clause-next : goal.leave_hole-start-requires-clause-next
leave_hole-start-requires-clause-next c =
    let old = c.args.rest.now.slots in let first = c.args.first.now in let n = c.args.words in let fit = c.args.fit in let is = c.requires.fit in let some = c.requires.words.0 in let unit = c.requires.words.1 in
    let cut = c.carve-piece.new.self.slots in let carved = c.carve-piece.ensures.rest.1 in let two = c.leave_hole-behind.new.rest.slots in let behind = c.leave_hole-behind.result in let one = c.leave_hole-behind.ensures in
    behind_link old first n fit is some unit cut carved c.end.result c.end.ensures two behind one.others.1 one.written one.start

pub relink-requires-clause-there : goal.relink-requires-clause-there
relink-requires-clause-there c =
    let old = c.args.rest.now.slots in let first = c.args.first.now in let n = c.args.words in let fit = c.args.fit in let is = c.requires.fit in let some = c.requires.words.0 in let unit = c.requires.words.1 in
    let cut = c.carve-piece.new.self.slots in let carved = c.carve-piece.ensures.rest.1 in let two = c.leave_hole-behind.new.rest.slots in let behind = c.leave_hole-behind.result in let one = c.leave_hole-behind.ensures in
    let three = c.leave_hole-start.new.rest.slots in let start = c.leave_hole-start.result in let other = c.leave_hole-start.ensures in
    before_there old first n fit is some unit cut carved c.end.result c.end.ensures two behind one.others.1 one.written one.start three start other.others.1 other.written other.start

pub relink-requires-clause-next : goal.relink-requires-clause-next
relink-requires-clause-next c =
    let old = c.args.rest.now.slots in let first = c.args.first.now in let n = c.args.words in let fit = c.args.fit in let is = c.requires.fit in let some = c.requires.words.0 in let unit = c.requires.words.1 in
    let cut = c.carve-piece.new.self.slots in let carved = c.carve-piece.ensures.rest.1 in let two = c.leave_hole-behind.new.rest.slots in let behind = c.leave_hole-behind.result in let one = c.leave_hole-behind.ensures in
    let three = c.leave_hole-start.new.rest.slots in let start = c.leave_hole-start.result in let other = c.leave_hole-start.ensures in
    start_link old first n fit is some unit cut carved c.end.result c.end.ensures two behind one.others.1 one.written one.start three start other.others.1 other.written other.start

pub returns-clause-block : goal.returns-clause-block
returns-clause-block c =
    let piece = c.carve-piece.ensures.piece in let there = can_carve c.args.rest.now.slots c.args.first.now c.args.words c.args.fit c.requires.fit c.requires.words.0 c.requires.words.1 in
    (piece.0, piece.1, ap length piece.2 ∙ sym (run_long c.args.rest.now.slots c.args.fit.place c.args.words there))

pub returns-clause-rest : goal.returns-clause-rest
returns-clause-rest c =
    let old = c.args.rest.now.slots in let first = c.args.first.now in let n = c.args.words in let fit = c.args.fit in let is = c.requires.fit in let some = c.requires.words.0 in let unit = c.requires.words.1 in
    let cut = c.carve-piece.new.self.slots in let carved = c.carve-piece.ensures.rest.1 in let two = c.leave_hole-behind.new.rest.slots in let behind = c.leave_hole-behind.result in let one = c.leave_hole-behind.ensures in
    let three = c.leave_hole-start.new.rest.slots in let start = c.leave_hole-start.result in let other = c.leave_hole-start.ensures in (
      c.relink.ensures.region ∙ other.others.0 ∙ one.others.0 ∙ c.carve-piece.ensures.rest.0,
      new_long old first n fit is some unit cut carved c.end.result c.end.ensures two behind one.others.1 one.written one.start three start other.others.1 other.written other.start c.relink.new.rest.slots c.relink.new.first c.relink.ensures.linked,
    )

pub returns-clause-holes : goal.returns-clause-holes
returns-clause-holes c =
    let old = c.args.rest.now.slots in let first = c.args.first.now in let n = c.args.words in let fit = c.args.fit in let is = c.requires.fit in let some = c.requires.words.0 in let unit = c.requires.words.1 in
    let cut = c.carve-piece.new.self.slots in let carved = c.carve-piece.ensures.rest.1 in let two = c.leave_hole-behind.new.rest.slots in let behind = c.leave_hole-behind.result in let one = c.leave_hole-behind.ensures in
    let three = c.leave_hole-start.new.rest.slots in let start = c.leave_hole-start.result in let other = c.leave_hole-start.ensures in
    carved_holes old first n fit is some unit cut carved c.end.result c.end.ensures two behind one.others.1 one.written one.start three start other.others.1 other.written other.start c.relink.new.rest.slots c.relink.new.first c.relink.ensures.linked

pub returns-clause-parts : goal.returns-clause-parts
returns-clause-parts c =
    let old = c.args.rest.now.slots in let first = c.args.first.now in let n = c.args.words in let fit = c.args.fit in let is = c.requires.fit in let some = c.requires.words.0 in let unit = c.requires.words.1 in
    let cut = c.carve-piece.new.self.slots in let carved = c.carve-piece.ensures.rest.1 in let two = c.leave_hole-behind.new.rest.slots in let behind = c.leave_hole-behind.result in let one = c.leave_hole-behind.ensures in
    let three = c.leave_hole-start.new.rest.slots in let start = c.leave_hole-start.result in let other = c.leave_hole-start.ensures in
    let block = block_parts old first n fit is some unit cut carved c.end.result c.end.ensures two behind one.others.1 one.written one.start three start other.others.1 other.written other.start c.relink.new.rest.slots c.relink.new.first c.relink.ensures.linked in
    let same : Path Range (record { place = fit.place; size = n }) (range_of c.carve-piece.result) = same_range fit.place n c.carve-piece.result (sym c.carve-piece.ensures.piece.1)
    (run_long old fit.place n (can_carve old first n fit is some unit) ∙ sym (ap length c.carve-piece.ensures.piece.2)) in
    subst (λ r. AreParts (in_rest old) r (in_rest c.relink.new.rest.slots)) same block
