-- The holes before the one that is found have no place, and it has the least.
use Rattle.std.proofs.Common.{◌≡◌, ◌+◌, ◌<◌, ◌++◌, [], ◌∷◌, length, Option, None, Some, sym, subst, ap, ◌∙◌, arith, refl}
use Rattle.space_heap.specs.declared.hole.Hole.{Hole}
use Rattle.relocate.specs.Places.{end_of, is_covered}
use Rattle.space_heap.specs.Holes.{IsFit, first_place, hole_end, in_rest}
use Rattle.relocate.proofs.Multiples.{IsNext}
use Rattle.space_heap.proofs.Finds.{Misses, one_more_misses, none_fits, first_fits, no_place, least_place, next_small, unit_multiple}
use Rattle.space_heap.proofs.Links.{IsAt, at_start, next_hole, none_ahead, that, that_read, can_read, advance, its_chains, left_from, nearer}
use Rattle.space_heap.proofs.find.find.Goals as goal

pub loop-next-init : goal.loop-next-init
loop-next-init c = let holes = c.requires.holes in ([], at_start c.args.rest.now.slots c.args.first holes.0 holes.1, tt)

pub read-hole-requires : goal.read-hole-requires
read-hole-requires c =
    let l = c.loop-next in let left = l.invariant.0 in let slots = c.args.rest.now.slots in let first = c.args.first in
    record { written = can_read slots first left l.before c.in-Some.at (next_hole slots first left l.before l.next c.in-Some.at l.invariant.1 c.in-Some.is) }

pub next_multiple_of-place-requires-clause-fits : goal.next_multiple_of-place-requires-clause-fits
next_multiple_of-place-requires-clause-fits c =
    let l = c.loop-next in let left = l.invariant.0 in let slots = c.args.rest.now.slots in let first = c.args.first in
    let n = next_hole slots first left l.before l.next c.in-Some.at l.invariant.1 c.in-Some.is in
    let block = (its_chains slots first left l.before c.in-Some.at n).1 in let inside = block.inside in let most = n.holes.size.0 in let here = n.here in
    let narrow = c.requires.align in let small = next_small c.in-Some.at c.args.align in omega arith

pub overflow_add-place : goal.overflow_add-place
overflow_add-place c =
    let l = c.loop-next in let left = l.invariant.0 in let slots = c.args.rest.now.slots in let first = c.args.first in
    let n = next_hole slots first left l.before l.next c.in-Some.at l.invariant.1 c.in-Some.is in
    let block = (its_chains slots first left l.before c.in-Some.at n).1 in let inside = block.inside in let most = n.holes.size.0 in let here = n.here in
    let narrow = c.requires.align in let wanted = c.requires.words in let upper = c.next_multiple_of-place.ensures.upper_bound in record { fits = omega arith }

pub end-requires : goal.end-requires
end-requires c =
    let l = c.loop-next in let left = l.invariant.0 in let slots = c.args.rest.now.slots in let first = c.args.first in let at = c.in-Some.at in
    let n = next_hole slots first left l.before l.next at l.invariant.1 c.in-Some.is in let h = that slots first left l.before at n in let read = that_read slots first left l.before at n in
    let block = (its_chains slots first left l.before at n).1 in let inside = block.inside in let most = n.holes.size.0 in
    subst (λ (g : Hole). hole_end g < 4294967296) (sym (c.read-hole.ensures.hole h n.here read.0 read.1)) (omega arith)

pub returns-then-place-words-clause-fit : goal.returns-then-place-words-clause-fit
returns-then-place-words-clause-fit c =
    let l = c.loop-next in let left = l.invariant.0 in let slots = c.args.rest.now.slots in let first = c.args.first in let at = c.in-Some.at in
    let n = next_hole slots first left l.before l.next at l.invariant.1 c.in-Some.is in let h = that slots first left l.before at n in let read = that_read slots first left l.before at n in
    let same = c.read-hole.ensures.hole h n.here read.0 read.1 in let p = c.next_multiple_of-place.result in let told = c.next_multiple_of-place.ensures in
    let end : c.end.result ≡ end_of n.hole = c.end.ensures ∙ ap hole_end same in let test = c.if-place-words.true in let low = told.lower_bound in let here = n.here in
    subst (λ (g : Hole). IsFit slots first c.args.words (record { found = record { before = l.before; hole = g }; place = p })) (sym same) (record {
      found = record { left = left; right = n.others; holes = n.holes; before = n.seen; next = refl };
      low = omega arith;
      high = omega arith;
      unit = unit_multiple p c.args.align told.multiple c.requires.align.2;
    })

pub returns-then-place-words-clause-least : goal.returns-then-place-words-clause-least
returns-then-place-words-clause-least c =
    let l = c.loop-next in let left = l.invariant.0 in let slots = c.args.rest.now.slots in let first = c.args.first in let at = c.in-Some.at in
    let n = next_hole slots first left l.before l.next at l.invariant.1 c.in-Some.is in let h = that slots first left l.before at n in let read = that_read slots first left l.before at n in
    let same = c.read-hole.ensures.hole h n.here read.0 read.1 in let p = c.next_multiple_of-place.result in let told = c.next_multiple_of-place.ensures in
    let end : c.end.result ≡ end_of n.hole = c.end.ensures ∙ ap hole_end same in let test = c.if-place-words.true in let low = told.lower_bound in let high = told.upper_bound in let here = n.here in
    let next : IsNext n.hole.place c.args.align p = (omega arith, omega arith, told.multiple) in
    let least = first_fits (length slots) (length slots + 1) 0 left n.hole n.others c.args.words c.args.align p n.holes.chain c.requires.words.0 l.invariant.2 next (omega arith) in
    least_place (in_rest slots) (is_covered (left ++ n.hole ∷ n.others)) c.args.words c.args.align p n.holes.all least.0 least.1

pub loop-next-smaller : goal.loop-next-smaller
loop-next-smaller c =
    let l = c.loop-next in let left = l.invariant.0 in let slots = c.args.rest.now.slots in let first = c.args.first in let at = c.in-Some.at in
    let n = next_hole slots first left l.before l.next at l.invariant.1 c.in-Some.is in let h = that slots first left l.before at n in let read = that_read slots first left l.before at n in
    let same = c.read-hole.ensures.hole h n.here read.0 read.1 in let size = length slots in let chains = its_chains slots first left l.before at n in
    subst (λ (next : Option _). left_from size next < left_from size l.next) (sym (ap (λ (g : Hole). g.next) same))
    (subst (λ (next : Option _). left_from size (first_place n.others None) < left_from size next) (ap (λ k. Some k) n.here ∙ sym c.in-Some.is)
    (nearer size n.hole n.others chains.1 chains.2))

pub loop-next-preserved : goal.loop-next-preserved
loop-next-preserved c =
    let l = c.loop-next in let left = l.invariant.0 in let slots = c.args.rest.now.slots in let first = c.args.first in let at = c.in-Some.at in
    let n = next_hole slots first left l.before l.next at l.invariant.1 c.in-Some.is in let h = that slots first left l.before at n in let read = that_read slots first left l.before at n in
    let same = c.read-hole.ensures.hole h n.here read.0 read.1 in let p = c.next_multiple_of-place.result in let told = c.next_multiple_of-place.ensures in
    let end : c.end.result ≡ end_of n.hole = c.end.ensures ∙ ap hole_end same in let test = c.if-place-words.false in let low = told.lower_bound in let high = told.upper_bound in let here = n.here in
    let misses : Misses n.hole c.args.words c.args.align = (p, ((omega arith, omega arith, told.multiple), omega arith)) in (
      left ++ n.hole ∷ [],
      subst (λ (next : Option _). IsAt slots first (left ++ n.hole ∷ []) (Some at) next) (sym (ap (λ (g : Hole). g.next) same)) (advance slots first left l.before at n),
      one_more_misses left n.hole c.args.words c.args.align l.invariant.2 misses,
    )

pub returns-clause-none : goal.returns-clause-none
returns-clause-none c =
    let l = c.loop-next in let left = l.invariant.0 in let slots = c.args.rest.now.slots in let first = c.args.first in
    let good = none_ahead slots first left l.before l.next l.invariant.1 c.in_default.is in
    no_place (in_rest slots) (is_covered left) c.args.words c.args.align good.all
    (none_fits (length slots) (length slots + 1) 0 left c.args.words c.args.align good.chain c.requires.words.0 l.invariant.2)
