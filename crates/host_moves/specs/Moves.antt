-- One move of a host's blocks.
use Rattle.std.specs.Prelude.{◌≡◌, ℕ, ℤ, ◌+◌, ◌-◌, ◌^◌, ◌&&◌, ◌||◌, min, nat_eq, nat_lt, Bool, List, Option, Some, None, is_some, if◌then◌else◌}
use Rattle.mem_rec.specs.declared.Space.{Space}
use Rattle.ialg.specs.Log.{Log, called, Moved as AlgMoved}
use Rattle.ialg.specs.Laws.{Laws}
use Rattle.record_loans.specs.Pieces.{piece_at}
use Rattle.record_loans.specs.Blocks.{block_words}
use Rattle.scratch_group.specs.declared.group.Group.{Group}
use Rattle.scratch_group.specs.Blocks.{block_in}
use Rattle.host_table.specs.declared.member.Member.{Member}
use Rattle.host_shared.specs.declared.locations.Locations.{Locations}
use Rattle.host_shared.specs.Locations.{shared_at}
use Rattle.host_table.specs.Table.{TablesOk, group_at, activity_at, is_member_of, slot_at}
use Rattle.host_table.specs.Refinement.{SlotsRefine}
use Rattle.host_table.specs.View.{View}
use Rattle.host_map.specs.declared.placed.Owner.{Owner}
use Rattle.host_map.specs.declared.placed.Owner.TheVariants.{Record, Scratch}
use Rattle.host_map.specs.declared.placed.Placed.{Placed}
use Rattle.std.specs.Option.{option_map}
use Rattle.relocate.specs.declared.packing.Move.{Move}
use Rattle.host_map.specs.Moves.{next_block, next_in}
use Rattle.host_spaces.specs.declared.spaces.Spaces.{Spaces}
use Rattle.host_map.specs.MemoryMap.{blocks_in, moved_in}
use Rattle.host_spaces.specs.MemoryMap.{copied_in, map_of, sizes_of}
use Rattle.host_spaces.specs.Spaces.{HasFront}
use Rattle.host_moves.specs.Standing.{AgreeWithMap, SameInstances}
use Rattle.host_moves.specs.Waiting.{holds_with}

-- so many of the first blocks of the space are at their packed places
abbrev pub FirstArePacked : ℕ → Spaces → Space → Type 0
FirstArePacked count spaces space = HasFront count (blocks_in (map_of spaces) space)

-- whether a block of the space isn't at its packed place
abbrev pub has_next : Spaces → Space → Bool
has_next spaces space = is_some (next_block (blocks_in (map_of spaces) space))

-- the next block that moves in the space is this owner's
abbrev pub IsNextOf : Spaces → Space → Owner → Type 0
IsNextOf spaces space owner = (b : Placed) × ((next_block (blocks_in (map_of spaces) space) ≡ Some b) × (b.owner ≡ owner))

-- the next block that moves in the space has this index
abbrev pub IsNextIndex : Spaces → Space → ℕ → Type 0
IsNextIndex spaces space index = option_map (λ (m : Move). m.index) (next_in (blocks_in (map_of spaces) space)) ≡ Some index

-- the next block that moves in the space, if there is one, has this alignment
abbrev pub IsNextAlign : Spaces → Space → ℕ → Type 0
IsNextAlign spaces space align = (b : Placed) → next_block (blocks_in (map_of spaces) space) ≡ Some b → b.align ≡ align

-- the blocks of a group without an active member have the words that they had
abbrev pub InactiveWordsStay : List Group → List Group → Type 0
InactiveWordsStay groups groups' = (g : ℕ) (space : Space) → (group_at groups g).active ≡ None
    → block_words (block_in (group_at groups' g) space) ≡ block_words (block_in (group_at groups g) space)

-- ---- who is called by algMoved

-- instance j has words in a block of this owner: in its own record, in one that it shares with the owner, or in its group's block
abbrev pub has_words : {M : Type 0} → List (Option (Member M)) → List Locations → Owner → ℕ → Bool
has_words instances sharing (Record i k) j = nat_eq j i || (is_some (piece_at (shared_at sharing i) k) && holds_with sharing i k j)
has_words instances sharing (Scratch g) j = is_member_of g (slot_at instances j)

-- each of these is called, once
abbrev pub told_where : (ℕ → Bool) → (ℕ → Log) → ℕ → Log
told_where who logs j = if who j then called AlgMoved (logs j) else logs j

-- each of these below n
abbrev pub told_until : (ℕ → Bool) → ℕ → (ℕ → Log) → ℕ → Log
told_until who n logs j = if who j && nat_lt j n then called AlgMoved (logs j) else logs j

-- the next block of a space was moved, and whoever has words in it got algMoved, once, and nobody else: each instance is the same, in its state,
-- and keeps its history
pub record HasMoved {M : Type 0} (laws : Laws M) (space : Space)
    (instances : List (Option (Member M))) (sharing : List Locations) (groups : List Group) (spaces : Spaces)
    (instances' : List (Option (Member M))) (sharing' : List Locations) (groups' : List Group) (spaces' : Spaces) : Type 0 where
  pub ok : TablesOk instances' sharing' groups'
  pub standing : AgreeWithMap instances' sharing' groups' spaces'
  pub words : InactiveWordsStay groups groups'
  pub same : SameInstances instances instances'
  pub activity : (k : ℕ) → activity_at groups' k ≡ activity_at groups k
  pub map : map_of spaces' ≡ moved_in (map_of spaces) space
  pub sizes : sizes_of spaces' ≡ sizes_of spaces
  pub copied : (b : Placed) → next_block (blocks_in (map_of spaces) space) ≡ Some b → copied_in spaces' ≡ min (copied_in spaces + b.size) (2 ^ 64 - 1)
  pub keeps : (b : Placed) → next_block (blocks_in (map_of spaces) space) ≡ Some b
      → (w : Option ℤ) (logs : ℕ → Log) → SlotsRefine laws w instances sharing groups logs
      → SlotsRefine laws w instances' sharing' groups' (told_where (has_words instances sharing b.owner) logs)

-- the same, of all that the tables hold
abbrev pub Moved : {M : Type 0} → Laws M → Space → View M → Spaces → View M → Spaces → Type 0
Moved laws space old spaces new spaces' =
    HasMoved laws space old.instances old.sharing old.groups spaces new.instances new.sharing new.groups spaces'
