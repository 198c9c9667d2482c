-- The new block is put in its place.
use Rattle.std.proofs.Common.{◌≡◌, List, sym, ◌∙◌, ap, subst}
use Rattle.host_map.specs.declared.placed.Placed.{Placed}
use Rattle.host_spaces.specs.Blocks.{block_of}
use Rattle.host_map.specs.Blocks.{owned, ranges, with_block, without_at}
use Rattle.host_spaces.specs.Spaces.{AreKept, SpaceState}
use Rattle.relocate.specs.Places.{placed_size}
use Rattle.host_spaces.proofs.Inserts.{least_place_multiple}
use Rattle.host_spaces.proofs.Keeping.{entered, kept_sorted, kept_with, taken_back}
use Rattle.host_spaces.proofs.Owners.{others_with, owned_with}
use Rattle.host_spaces.proofs.blocks.SpaceBlocks.place.Goals as goal

items : (c : goal.After-enter) → c.enter.new.blocks.items ≡ with_block (block_of c.args.owner c.args.align c.in_ok-piece.piece) c.self.inside.blocks.items
items c =
    entered c.args.owner c.args.align c.place.result c.len.result c.in_ok-piece.piece c.self.inside.blocks.items c.enter.new.blocks.items
    c.enter.ensures.items c.place.ensures.value c.len.ensures.value

pub invariant_of-self-2 : goal.invariant_of-self-2
invariant_of-self-2 c =
    let bs = c.self.inside.blocks.items in let p = c.in_ok-piece.piece in let told = c.in_ok-piece.ensures in
    let place = least_place_multiple c.self.inside.heap.region.size (ranges bs) (placed_size c.args.words) c.args.align p.place (told.place (ranges bs) c.self.invariant.0.held) in (
      subst (λ (xs : List Placed). AreKept c.take.new.self xs) (sym (items c))
          (kept_with c.self.inside.heap c.take.new.self told.stays.0 told.stays.1 bs c.self.invariant.0 (block_of c.args.owner c.args.align p) c.requires.align place told.taken),
      c.enter.ensures.capacity ∙ c.self.invariant.1,
    )

pub returns-clause-owned : goal.returns-clause-owned
returns-clause-owned c =
    let bs = c.self.inside.blocks.items in let b = block_of c.args.owner c.args.align c.in_ok-piece.piece in
    ap (λ xs. owned c.args.owner xs) (items c) ∙ owned_with 0 b bs (kept_sorted c.self.inside.heap bs c.self.invariant.0)
    ∙ ap (λ (v : SpaceState). with_block b (owned c.args.owner v.blocks)) c.self.view_is

pub returns-clause-others : goal.returns-clause-others
returns-clause-others c =
    let bs = c.self.inside.blocks.items in let b = block_of c.args.owner c.args.align c.in_ok-piece.piece in
    λ o apart. ap (λ xs. owned o xs) (items c) ∙ others_with o b bs apart ∙ ap (λ (v : SpaceState). owned o v.blocks) c.self.view_is

pub returns-clause-back : goal.returns-clause-back
returns-clause-back c =
    let bs = c.self.inside.blocks.items in let b = block_of c.args.owner c.args.align c.in_ok-piece.piece in
    ap (without_at b.place) (items c)
    ∙ taken_back c.take.new.self bs b (subst (λ (xs : List Placed). AreKept c.take.new.self xs) (items c) (invariant_of-self-2 c).0)
    ∙ ap (λ (v : SpaceState). v.blocks) c.self.view_is
