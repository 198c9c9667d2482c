-- All that is needed was placed, as the definition says.
use Rattle.std.proofs.Common.{◌≡◌, ℕ, List, [], length, drop, Option, sym, ◌∙◌, ap, subst, arith}
use Rattle.mem_rec.specs.declared.Space.{Space}
use Rattle.host_map.specs.declared.placed.Owner.TheVariants.{Record, Scratch}
use Rattle.host_map.specs.Blocks.{owned}
use Rattle.host_spaces.specs.declared.pieces.Placement.{Placement}
use Rattle.host_map.specs.declared.parts.Wanted.{Wanted}
use Rattle.host_map.specs.MemoryMap.{blocks_in}
use Rattle.host_spaces.specs.MemoryMap.{map_of, sizes_of, space_in}
use Rattle.host_map.specs.Creation.{all_placed, sharer_at}
use Rattle.host_spaces.specs.Pieces.{ArePlacedPieces, HasRecords, IsNeeded, IsPoisoned, new_block, placement_of, with_new}
use Rattle.host_spaces.specs.Wants.{AreApartWants, IsGranted, block_need, count_in, somes, wants_of}
use Rattle.host_spaces.proofs.Granting.{blocks_made, needed_made, others_made, pieces_made, poison_made, records_made}
use Rattle.host_spaces.proofs.Maps.{seen_blocks}
use Rattle.host_spaces.proofs.Steps.{apart_wants, few_wants, wants_is}
use Rattle.host_spaces.proofs.spaces.Spaces.place_instance.Goals as goal
use Rattle.host_spaces.proofs.spaces.Spaces.place_instance.Goals.{After-as_placement}

pub place_from-requires-clause-apart : goal.place_from-requires-clause-apart
place_from-requires-clause-apart c = subst (λ (ws : List (Option Wanted)). AreApartWants ws) (sym c.wants-wants.ensures.value) (apart_wants (sharer_at c.args.sharers.now) c.args.i c.args.g c.args.table.now c.args.old.now)

pub place_from-requires-clause-room : goal.place_from-requires-clause-room
place_from-requires-clause-room c =
    λ space.
    let few = few_wants (sharer_at c.args.sharers.now) c.args.i c.args.g c.args.table.now c.args.old.now space in let count = ap (count_in space) c.wants-wants.ensures.value in
    let room = c.requires.room space in let same = ap length (seen_blocks c.args.self.now space) in omega arith

pub returns-in-Err-clause-exact : goal.returns-in-Err-clause-exact
returns-in-Err-clause-exact c =
    let old = c.args.self.now in
    ap (all_placed (sizes_of old) (map_of old))
    (wants_is (sharer_at c.args.sharers.now) (map_of old) c.args.i c.args.g c.args.table.now c.args.old.now c.requires.blocks c.records-records.ensures.table
    ∙ ap (λ (ws : List (Option Wanted)). somes (drop 0 ws)) (sym c.wants-wants.ensures.value))
    ∙ c.in-Err.ensures.exact

pub returns-clause-exact : goal.returns-clause-exact
returns-clause-exact c =
    let old = c.args.self.now in
    ap (all_placed (sizes_of old) (map_of old))
    (wants_is (sharer_at c.args.sharers.now) (map_of old) c.args.i c.args.g c.args.table.now c.args.old.now c.requires.blocks c.records-records.ensures.table
    ∙ ap (λ (ws : List (Option Wanted)). somes (drop 0 ws)) (sym c.wants-wants.ensures.value))
    ∙ c.in-Ok.ensures.exact

-- what is known once it is placed
granted : (c : After-as_placement) → IsGranted c.args.self.now c.place_from.new.spaces c.args.poison 0 (wants_of (sharer_at c.args.sharers.now) c.args.i c.args.g c.args.table.now c.args.old.now) c.place_from.new.granted
granted c =
    subst (λ (ws : List (Option Wanted)). IsGranted c.args.self.now c.place_from.new.spaces c.args.poison 0 ws c.place_from.new.granted) c.wants-wants.ensures.value c.in-Ok.ensures.granted

made : (c : After-as_placement) → placement_of c.args.table.now (wants_of (sharer_at c.args.sharers.now) c.args.i c.args.g c.args.table.now c.args.old.now) c.place_from.new.granted ≡ c.as_placement.result
made c = sym (c.as_placement.ensures ∙ ap (λ (ws : List (Option Wanted)). placement_of c.args.table.now ws c.place_from.new.granted) c.wants-wants.ensures.value)

none : (c : After-as_placement) (k : ℕ) (space : Space) → owned (Record c.args.i k) (space_in c.args.self.now space).blocks ≡ []
none c k space = ap (owned (Record c.args.i k)) (sym (seen_blocks c.args.self.now space)) ∙ c.requires.records k space

pub returns-clause-pieces : goal.returns-clause-pieces
returns-clause-pieces c =
    subst (λ (m : Placement). ArePlacedPieces c.args.self.now c.args.table.now (sharer_at c.args.sharers.now) m.own m.shared) (made c)
    (pieces_made c.args.self.now c.place_from.new.spaces c.args.poison (sharer_at c.args.sharers.now) c.args.i c.args.g c.args.table.now c.args.old.now c.place_from.new.granted (granted c) c.requires.sharers c.records-records.ensures.table)

pub returns-clause-records : goal.returns-clause-records
returns-clause-records c =
    subst (λ (m : Placement). HasRecords (map_of c.place_from.new.spaces) c.args.i c.args.table.now m.own m.shared) (made c)
    (records_made c.args.self.now c.place_from.new.spaces c.args.poison (sharer_at c.args.sharers.now) c.args.i c.args.g c.args.table.now c.args.old.now c.place_from.new.granted (granted c) (none c) c.records-records.ensures.table)

pub returns-clause-needed : goal.returns-clause-needed
returns-clause-needed c =
    λ space. subst (λ (m : Placement). IsNeeded (space_in c.args.self.now space).region (block_need c.args.table.now c.args.old.now space) (new_block m.blocks space)) (made c)
    (needed_made c.args.self.now c.place_from.new.spaces c.args.poison (sharer_at c.args.sharers.now) c.args.i c.args.g c.args.table.now c.args.old.now c.place_from.new.granted (granted c) (none c) space)

pub returns-clause-blocks : goal.returns-clause-blocks
returns-clause-blocks c =
    λ space. subst (λ (m : Placement). owned (Scratch c.args.g) (blocks_in (map_of c.place_from.new.spaces) space)
    ≡ with_new c.args.g (new_block m.blocks space) (owned (Scratch c.args.g) (blocks_in (map_of c.args.self.now) space))) (made c)
    (blocks_made c.args.self.now c.place_from.new.spaces c.args.poison (sharer_at c.args.sharers.now) c.args.i c.args.g c.args.table.now c.args.old.now c.place_from.new.granted (granted c) (none c) space)

pub returns-clause-others : goal.returns-clause-others
returns-clause-others c =
    others_made c.args.self.now c.place_from.new.spaces c.args.poison (sharer_at c.args.sharers.now) c.args.i c.args.g c.args.table.now c.args.old.now c.place_from.new.granted (granted c) (none c)

pub returns-clause-poison : goal.returns-clause-poison
returns-clause-poison c =
    subst (λ (m : Placement). IsPoisoned c.args.poison m) (made c)
    (poison_made c.args.self.now c.place_from.new.spaces c.args.poison (sharer_at c.args.sharers.now) c.args.i c.args.g c.args.table.now c.args.old.now c.place_from.new.granted (granted c) (none c))
