-- A hole that ends at the place is the last one that begins before it.
use Rattle.std.proofs.Common.{sym, ◌∙◌, arith}
use Rattle.space_heap.proofs.Ends.{found_chains, front_touching, front_apart, front_first}
use Rattle.space_heap.proofs.holes.join_front.Goals as goal

pub end-requires : goal.end-requires
end-requires c =
    let found = c.in-Some.ensures.found.0 in let inside = (found_chains c.args.rest.now.slots c.args.first c.in-Some.found found).1.inside in let most = found.holes.size.0 in omega arith

pub returns-then-end-place : goal.returns-then-end-place
returns-then-end-place c =
    let known = c.in-Some.ensures.found in
    front_touching c.args.rest.now.slots c.args.first c.in-Some.found known.0 c.args.place (sym c.end.ensures ∙ c.if-end-place.true) known.2

pub returns-else-end-place : goal.returns-else-end-place
returns-else-end-place c =
    let known = c.in-Some.ensures.found in let block = c.requires.block in
    front_apart c.args.rest.now.slots c.args.first c.in-Some.found known.0 c.args.place known.1 block.2 (λ e. c.if-end-place.false (c.end.ensures ∙ e)) block.0 known.2

pub returns-in-None : goal.returns-in-None
returns-in-None c = front_first c.args.rest.now.slots c.args.first c.requires.holes c.args.place c.in-None.ensures.none c.requires.block.0
