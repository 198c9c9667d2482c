-- The block of the move's index.
use Rattle.std.proofs.Common.{◌≡◌, ◌<◌, ◌+◌, List, length, Option, Some, None, get_or, subst, sym, ◌∙◌, ap, arith}
use Rattle.std.specs.Option.{option_map}
use Rattle.relocate.specs.declared.packing.Move.{Move}
use Rattle.relocate.specs.Spots.{AreSpots}
use Rattle.host_map.specs.declared.placed.Owner.TheVariants.{Record}
use Rattle.host_map.specs.declared.placed.Placed.{Placed}
use Rattle.host_map.specs.Moves.{block_to_move, moved, next_block, next_in, spots_of}
use Rattle.host_map.proofs.MoveLemmas.{next_is}
use Rattle.host_spaces.specs.Spaces.{HasFront, SpaceState}
use Rattle.host_spaces.proofs.Moving.{front_moved, move_inside, next_found}
use Rattle.host_spaces.proofs.blocks.SpaceBlocks.next_move_behind.Goals as goal

-- what a read past the end would give
abbrev blank : Placed
blank = record { owner = Record 0 0; place = 0; size = 0; align = 0 }

next : (bs slice : List Placed) (found : Option Move) (m : Move) → slice ≡ bs → found ≡ next_in slice → found ≡ Some m → next_in bs ≡ Some m
next bs slice found m same is some = sym (ap next_in same) ∙ sym is ∙ some

inside : (bs slice again : List Placed) (found : Option Move) (m : Move) → AreSpots (spots_of bs) → slice ≡ bs → again ≡ bs → found ≡ next_in slice → found ≡ Some m → m.index < length again
inside bs slice again found m order same one is some = subst (λ (xs : List Placed). m.index < length xs) (sym one) (move_inside bs m order (next bs slice found m same is some))

pub overflow_add-packed : goal.overflow_add-packed
overflow_add-packed c =
    let lt = inside c.self.inside.blocks.items c.as_slice.result.now c.as_slice.result.now c.next_move_behind.result c.in-Some.next c.self.invariant.0.order
    c.as_slice.ensures.value c.as_slice.ensures.value c.next_move_behind.ensures.value c.in-Some.is in
    let v = c.self.inside.blocks in omega (arith, lt, c.as_slice.ensures.len, v.ok.1, c.self.invariant.1)

pub bounds-as_slice-index : goal.bounds-as_slice-index
bounds-as_slice-index c =
    inside c.self.inside.blocks.items c.as_slice.result.now c.as_slice-in-Some.result.now c.next_move_behind.result c.in-Some.next c.self.invariant.0.order
    c.as_slice.ensures.value c.as_slice-in-Some.ensures.value c.next_move_behind.ensures.value c.in-Some.is

pub offset_bounds-as_slice-index : goal.offset_bounds-as_slice-index
offset_bounds-as_slice-index c =
    let lt = inside c.self.inside.blocks.items c.as_slice.result.now c.as_slice-in-Some.result.now c.next_move_behind.result c.in-Some.next c.self.invariant.0.order
    c.as_slice.ensures.value c.as_slice-in-Some.ensures.value c.next_move_behind.ensures.value c.in-Some.is in
    let v = c.self.inside.blocks in omega (arith, lt, c.as_slice-in-Some.ensures.len, v.ok.1, c.self.invariant.1)

pub returns-in-Some-clause-value : goal.returns-in-Some-clause-value
returns-in-Some-clause-value c =
    let bs = c.self.inside.blocks.items in let m = c.in-Some.next in
    ap (λ (xs : List Placed). Some (get_or xs m.index blank)) c.as_slice-in-Some.ensures.value ∙ next_found bs m blank c.self.invariant.0.order
    (next bs c.as_slice.result.now c.next_move_behind.result m c.as_slice.ensures.value c.next_move_behind.ensures.value c.in-Some.is)
    ∙ ap (λ (v : SpaceState). next_block v.blocks) c.self.view_is

pub returns-in-Some-clause-front : goal.returns-in-Some-clause-front
returns-in-Some-clause-front c some =
    let bs = c.self.inside.blocks.items in let m = c.in-Some.next in
    subst (λ (v : SpaceState). HasFront (m.index + 1) (moved v.blocks)) c.self.view_is
    (front_moved bs m c.self.invariant.0.order (next bs c.as_slice.result.now c.next_move_behind.result m c.as_slice.ensures.value c.next_move_behind.ensures.value c.in-Some.is))

pub returns-in-Some-clause-index : goal.returns-in-Some-clause-index
returns-in-Some-clause-index c some =
    let bs = c.self.inside.blocks.items in let m = c.in-Some.next in
    subst (λ (v : SpaceState). option_map (λ (x : Move). x.index + 1) (next_in v.blocks) ≡ Some (m.index + 1)) c.self.view_is
    (ap (option_map (λ (x : Move). x.index + 1)) (next bs c.as_slice.result.now c.next_move_behind.result m c.as_slice.ensures.value c.next_move_behind.ensures.value c.in-Some.is))

pub returns-in-None-clause-value : goal.returns-in-None-clause-value
returns-in-None-clause-value c =
    let bs = c.self.inside.blocks.items in
    let none : next_in bs ≡ None = sym (ap next_in c.as_slice.ensures.value) ∙ sym c.next_move_behind.ensures.value ∙ c.in-None.is in
    sym (ap (λ (o : Option Move). block_to_move o bs) none) ∙ next_is bs ∙ ap (λ (v : SpaceState). next_block v.blocks) c.self.view_is
