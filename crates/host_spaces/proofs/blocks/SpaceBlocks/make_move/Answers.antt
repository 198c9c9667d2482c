-- The heap lowers the block, and the list has it there.
use Rattle.std.proofs.Common.{◌≡◌, ◌<◌, ◌+◌, ◌-◌, ◌^◌, ℕ, List, length, Some, get_or, min, sym, ◌∙◌, ap, subst}
use Rattle.space_raw.specs.Span.{Span}
use Rattle.space_heap.specs.Maps.{range_of}
use Rattle.std.specs.Option.{option_map}
use Rattle.relocate.specs.declared.packing.Move.{Move}
use Rattle.host_map.specs.declared.placed.Placed.{Placed}
use Rattle.host_spaces.specs.Blocks.{Owns}
use Rattle.host_map.specs.Blocks.{block_range, owned}
use Rattle.host_map.specs.Moves.{moved, moved_to, next_block, next_in, spots_of}
use Rattle.host_spaces.specs.Spaces.{AreKept, SpaceState}
use Rattle.relocate.specs.Spots.{AreSpots}
use Rattle.host_spaces.proofs.MadeMoves.{aligned, counted, is_moved, its_owner, its_place, kept_after, other_owners, piece_block}
use Rattle.host_spaces.proofs.Moving.{IsNext, index_inside, is_next, stands_there}
use Rattle.host_spaces.proofs.blocks.SpaceBlocks.make_move.Goals as goal
use Rattle.host_spaces.proofs.blocks.SpaceBlocks.make_move.Goals.{After-put_at}

-- the block before the move
module _ (bs : List Placed) (v : SpaceState) (piece : Span) (order : AreSpots (spots_of bs)) (is : bs ≡ v.blocks) where
  next_before : option_map block_range (next_block v.blocks) ≡ Some (range_of piece) → IsNext bs piece
  next_before next = is_next bs piece order (ap (λ (xs : List Placed). option_map block_range (next_block xs)) is ∙ next)

  index_before : (k : ℕ) → option_map (λ (m : Move). m.index) (next_in v.blocks) ≡ Some k → option_map (λ (m : Move). m.index) (next_in bs) ≡ Some k
  index_before k index = ap (λ (xs : List Placed). option_map (λ (m : Move). m.index) (next_in xs)) is ∙ index

pub align_of-align-requires : goal.align_of-align-requires
align_of-align-requires c =
    let bs = c.self.inside.blocks.items in
    let is = ap (λ (v : SpaceState). v.blocks) c.self.view_is in
    let nx = next_before bs c.args.self.now c.args.piece c.self.invariant.0.order is c.requires.next in
    let at = index_before bs c.args.self.now c.args.piece c.self.invariant.0.order is c.args.index c.requires.index in
    record { within = subst (λ (xs : List Placed). c.args.index < length xs) (sym c.as_slice.ensures.value) (index_inside bs c.args.piece nx c.args.index at) }

pub lower-moved-requires-clause-block : goal.lower-moved-requires-clause-block
lower-moved-requires-clause-block c =
    let bs = c.self.inside.blocks.items in let k = c.args.index in
    let is = ap (λ (v : SpaceState). v.blocks) c.self.view_is in
    let nx = next_before bs c.args.self.now c.args.piece c.self.invariant.0.order is c.requires.next in
    let at = index_before bs c.args.self.now c.args.piece c.self.invariant.0.order is k c.requires.index in
    piece_block c.self.inside.heap bs c.self.invariant.0 c.args.piece nx k (index_inside bs c.args.piece nx k at) (stands_there bs c.args.piece nx k at)

pub lower-moved-requires-clause-align : goal.lower-moved-requires-clause-align
lower-moved-requires-clause-align c =
    let bs = c.self.inside.blocks.items in let k = c.args.index in let a = c.align_of-align.result in
    let is = ap (λ (v : SpaceState). v.blocks) c.self.view_is in
    let nx = next_before bs c.args.self.now c.args.piece c.self.invariant.0.order is c.requires.next in
    let at = index_before bs c.args.self.now c.args.piece c.self.invariant.0.order is k c.requires.index in
    let align : (d : Placed) → a ≡ (get_or bs k d).align = λ d. subst (λ (xs : List Placed). a ≡ (get_or xs k d).align) c.as_slice.ensures.value (c.align_of-align.ensures.value d) in
    aligned c.self.inside.heap bs c.self.invariant.0 c.args.piece nx k (index_inside bs c.args.piece nx k at) (stands_there bs c.args.piece nx k at) a align

pub put_at-requires : goal.put_at-requires
put_at-requires c =
    let bs = c.self.inside.blocks.items in
    let is = ap (λ (v : SpaceState). v.blocks) c.self.view_is in
    let nx = next_before bs c.args.self.now c.args.piece c.self.invariant.0.order is c.requires.next in
    record { within = index_inside bs c.args.piece nx c.args.index (index_before bs c.args.self.now c.args.piece c.self.invariant.0.order is c.args.index c.requires.index) }

-- what is known once the move is made
next : (c : After-put_at) → IsNext c.self.inside.blocks.items c.args.piece
next c =
    is_next c.self.inside.blocks.items c.args.piece c.self.invariant.0.order
    (ap (λ (v : SpaceState). option_map block_range (next_block v.blocks)) c.self.view_is ∙ c.requires.next)

at_index : (c : After-put_at) → option_map (λ (m : Move). m.index) (next_in c.self.inside.blocks.items) ≡ Some c.args.index
at_index c = ap (λ (v : SpaceState). option_map (λ (m : Move). m.index) (next_in v.blocks)) c.self.view_is ∙ c.requires.index

inside : (c : After-put_at) → c.args.index < length c.self.inside.blocks.items
inside c = index_inside c.self.inside.blocks.items c.args.piece (next c) c.args.index (at_index c)

there : (c : After-put_at) (d : Placed) → (get_or c.self.inside.blocks.items c.args.index d).place ≡ c.args.piece.place
there c d = stands_there c.self.inside.blocks.items c.args.piece (next c) c.args.index (at_index c) d

align : (c : After-put_at) (d : Placed) → c.align_of-align.result ≡ (get_or c.self.inside.blocks.items c.args.index d).align
align c d = subst (λ (xs : List Placed). c.align_of-align.result ≡ (get_or xs c.args.index d).align) c.as_slice.ensures.value (c.align_of-align.ensures.value d)

items : (c : After-put_at) → c.put_at.new.blocks.items ≡ moved_to c.self.inside.blocks.items c.args.index c.lower-moved.result.place
items c = c.put_at.ensures.items ∙ ap (λ n. moved_to c.self.inside.blocks.items c.args.index n) c.place.ensures.value

pub invariant_of-self : goal.invariant_of-self
invariant_of-self c =
    let told = c.lower-moved.ensures in (
      subst (λ (xs : List Placed). AreKept c.lower-moved.new.self xs) (sym (items c))
          (kept_after c.self.inside.heap c.self.inside.blocks.items c.self.invariant.0 c.args.piece (next c) c.args.index (inside c) (there c)
          c.align_of-align.result (align c) c.lower-moved.new.self c.lower-moved.result told.words.0 told.stays told.place told.taken told.slid),
      c.put_at.ensures.capacity ∙ c.self.invariant.1,
    )

pub returns-clause-blocks : goal.returns-clause-blocks
returns-clause-blocks c =
    let told = c.lower-moved.ensures in
    items c
    ∙ is_moved c.self.inside.heap c.self.inside.blocks.items c.self.invariant.0 c.args.piece (next c) c.args.index (inside c) (there c)
    c.align_of-align.result (align c) c.lower-moved.new.self c.lower-moved.result told.words.0 told.stays told.place told.taken told.slid
    ∙ ap (λ (v : SpaceState). moved v.blocks) c.self.view_is

pub returns-clause-place : goal.returns-clause-place
returns-clause-place c =
    let told = c.lower-moved.ensures in
    sym (ap (λ (v : SpaceState). option_map (λ (x : Move). x.to) (next_in v.blocks)) c.self.view_is)
    ∙ its_place c.self.inside.heap c.self.inside.blocks.items c.self.invariant.0 c.args.piece (next c) c.args.index (inside c) (there c)
    c.align_of-align.result (align c) c.lower-moved.new.self c.lower-moved.result told.words.0 told.stays told.place told.taken told.slid

pub returns-clause-owned : goal.returns-clause-owned
returns-clause-owned c =
    let told = c.lower-moved.ensures in
    λ owner e one.
    ap (λ xs. owned owner xs) (items c)
    ∙ its_owner c.self.inside.heap c.self.inside.blocks.items c.self.invariant.0 c.args.piece (next c) c.args.index (inside c) (there c)
    c.align_of-align.result (align c) c.lower-moved.new.self c.lower-moved.result told.words.0 told.stays told.place told.taken told.slid owner e
    (ap (λ (v : SpaceState). owned owner v.blocks) c.self.view_is ∙ one)

pub returns-clause-others : goal.returns-clause-others
returns-clause-others c =
    let told = c.lower-moved.ensures in
    λ owner o it apart.
    ap (λ xs. owned o xs) (items c)
    ∙ other_owners c.self.inside.heap c.self.inside.blocks.items c.self.invariant.0 c.args.piece (next c) c.args.index (inside c) (there c)
    c.align_of-align.result (align c) c.lower-moved.new.self c.lower-moved.result told.words.0 told.stays told.place told.taken told.slid owner o
    (subst (λ (v : SpaceState). Owns v.blocks owner c.args.piece) (sym c.self.view_is) it) apart
    ∙ ap (λ (v : SpaceState). owned o v.blocks) c.self.view_is

pub returns-clause-slid : goal.returns-clause-slid
returns-clause-slid c =
    let told = c.lower-moved.ensures in
    counted c.self.inside.heap c.self.inside.blocks.items c.self.invariant.0 c.args.piece (next c) c.args.index (inside c) (there c)
    c.align_of-align.result (align c) c.lower-moved.new.self c.lower-moved.result told.words.0 told.stays told.place told.taken told.slid
    ∙ ap (λ (v : SpaceState). min (v.slid + length c.args.piece.words) (2 ^ 64 - 1)) c.self.view_is
