-- The block leaves the list, and the heap has its words again.
use Rattle.std.proofs.Common.{◌≡◌, ◌<◌, List, length, get_or, remove, sym, ◌∙◌, ap, subst}
use Rattle.host_map.specs.declared.placed.Owner.{Owner}
use Rattle.host_map.specs.declared.placed.Owner.TheVariants.{Record}
use Rattle.host_map.specs.declared.placed.Placed.{Placed}
use Rattle.host_spaces.specs.Blocks.{Owns}
use Rattle.host_map.specs.Blocks.{disowned, owned, without_at}
use Rattle.host_map.specs.Moves.{spots_of}
use Rattle.host_spaces.specs.Spaces.{AreKept, SpaceState}
use Rattle.relocate.specs.Spots.{AreSpots}
use Rattle.host_spaces.proofs.Keeping.{is_without, kept_given, kept_sorted, piece_block, stands_there}
use Rattle.host_spaces.proofs.Owners.{others_without, removed_only}
use Rattle.host_spaces.proofs.blocks.SpaceBlocks.take_out.Goals as goal
use Rattle.host_spaces.proofs.blocks.SpaceBlocks.take_out.Goals.{After-give}

-- what a read past the end would give
abbrev blank : Placed
blank = record { owner = Record 0 0; place = 0; size = 0; align = 0 }

pub position-index-requires-clause-there : goal.position-index-requires-clause-there
position-index-requires-clause-there c =
    let bs = c.self.inside.blocks.items in let owner = c.requires.owner.0 in
    let owns : Owns bs owner c.args.piece = subst (λ (v : SpaceState). Owns v.blocks owner c.args.piece) (sym c.self.view_is) c.requires.owner.1 in
    stands_there bs c.as_slice.result.now owner c.args.piece c.place.result owns c.as_slice.ensures.value c.place.ensures.value

pub position-index-requires-clause-order : goal.position-index-requires-clause-order
position-index-requires-clause-order c = subst (λ (xs : List Placed). AreSpots (spots_of xs)) (sym c.as_slice.ensures.value) c.self.invariant.0.order

pub give-requires-clause-block : goal.give-requires-clause-block
give-requires-clause-block c =
    let bs = c.self.inside.blocks.items in let owner = c.requires.owner.0 in let k = c.position-index.result in
    let owns : Owns bs owner c.args.piece = subst (λ (v : SpaceState). Owns v.blocks owner c.args.piece) (sym c.self.view_is) c.requires.owner.1 in
    let lt : k < length bs = subst (λ (xs : List Placed). k < length xs) c.as_slice.ensures.value c.position-index.ensures.within in
    let at : (d : Placed) → (get_or bs k d).place ≡ c.args.piece.place =
    λ d. subst (λ (xs : List Placed). (get_or xs k d).place ≡ c.place.result) c.as_slice.ensures.value (c.position-index.ensures.found d) ∙ c.place.ensures.value in
    piece_block c.self.inside.heap bs c.self.invariant.0 owner c.args.piece owns k lt at

owns : (c : After-give) (owner : Owner) → Owns c.args.self.now.blocks owner c.args.piece → Owns c.self.inside.blocks.items owner c.args.piece
owns c owner it = subst (λ (v : SpaceState). Owns v.blocks owner c.args.piece) (sym c.self.view_is) it

inside : (c : After-give) → c.position-index.result < length c.self.inside.blocks.items
inside c = subst (λ (xs : List Placed). c.position-index.result < length xs) c.as_slice.ensures.value c.position-index.ensures.within

there : (c : After-give) (d : Placed) → (get_or c.self.inside.blocks.items c.position-index.result d).place ≡ c.args.piece.place
there c d =
    subst (λ (xs : List Placed). (get_or xs c.position-index.result d).place ≡ c.place.result) c.as_slice.ensures.value (c.position-index.ensures.found d)
    ∙ c.place.ensures.value

without : (c : After-give) → remove c.self.inside.blocks.items c.position-index.result ≡ without_at c.args.piece.place c.self.inside.blocks.items
without c =
    is_without c.self.inside.heap c.self.inside.blocks.items c.self.invariant.0 c.requires.owner.0 c.args.piece (owns c c.requires.owner.0 c.requires.owner.1)
    c.position-index.result (inside c) (there c)

pub invariant_of-self : goal.invariant_of-self
invariant_of-self c = (
  subst (λ (xs : List Placed). AreKept c.give.new.self xs) (sym c.remove-block.ensures.items)
      (kept_given c.self.inside.heap c.self.inside.blocks.items c.self.invariant.0 c.requires.owner.0 c.args.piece (owns c c.requires.owner.0 c.requires.owner.1)
      c.position-index.result (inside c) (there c) c.give.new.self c.give.ensures.stays.0 c.give.ensures.stays.1 c.give.ensures.taken),
  c.remove-block.ensures.capacity ∙ c.self.invariant.1,
)

pub returns-clause-blocks : goal.returns-clause-blocks
returns-clause-blocks c = c.remove-block.ensures.items ∙ without c ∙ ap (λ (v : SpaceState). without_at c.args.piece.place v.blocks) c.self.view_is

pub returns-clause-only : goal.returns-clause-only
returns-clause-only c =
    let bs = c.self.inside.blocks.items in
    λ owner align one.
    c.remove-block.ensures.items
    ∙ removed_only bs owner align c.args.piece c.position-index.result (inside c) (there c) (kept_sorted c.self.inside.heap bs c.self.invariant.0)
    (ap (λ (v : SpaceState). owned owner v.blocks) c.self.view_is ∙ one)
    ∙ ap (λ (v : SpaceState). disowned owner v.blocks) c.self.view_is

pub returns-clause-others : goal.returns-clause-others
returns-clause-others c =
    let bs = c.self.inside.blocks.items in
    λ owner o it apart.
    ap (λ xs. owned o xs) c.remove-block.ensures.items
    ∙ others_without 0 bs (kept_sorted c.self.inside.heap bs c.self.invariant.0) owner o c.args.piece (owns c owner it) c.position-index.result blank (inside c) (there c blank) apart
    ∙ ap (λ (v : SpaceState). owned o v.blocks) c.self.view_is
