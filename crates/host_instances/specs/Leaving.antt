-- Between two steps of an end. No public contract speaks of it.
use Rattle.std.specs.Prelude.{◌≡◌, ◌≢◌, ℕ, ℤ, false, List, [], Option, Some, None}
use Rattle.mem_rec.specs.declared.Space.{Space}
use Rattle.ialg.specs.History.{History}
use Rattle.ialg.specs.Laws.{Laws}
use Rattle.record_loans.specs.Blocks.{block_piece}
use Rattle.scratch_group.specs.declared.group.Group.{Group}
use Rattle.scratch_group.specs.Blocks.{block_in}
use Rattle.host_table.specs.declared.member.Member.{Member}
use Rattle.host_shared.specs.declared.locations.Locations.{Locations}
use Rattle.record_loans.specs.Pieces.{no_pieces}
use Rattle.host_shared.specs.Locations.{owner_of, shared_at}
use Rattle.host_table.specs.Table.{slot_at, group_at, instance_of, is_member_of}
use Rattle.host_shared.specs.Sharing.{AreLeast}
use Rattle.host_table.specs.Sharers.{AreTogether, asked_by}
use Rattle.host_table.specs.Refinement.{HistoriesRefine}
use Rattle.host_table.specs.View.{View}
use Rattle.host_map.specs.declared.placed.Owner.TheVariants.{Record}
use Rattle.host_map.specs.Blocks.{owned}
use Rattle.host_spaces.specs.declared.spaces.Spaces.{Spaces}
use Rattle.host_map.specs.MemoryMap.{blocks_in, is_instance's, renamed, without_owners}
use Rattle.host_map.specs.Creation.{handed_on}
use Rattle.host_spaces.specs.MemoryMap.{map_of, space_in}
use Rattle.host_spaces.specs.declared.pieces.OldBlocks.{OldBlocks}
use Rattle.host_spaces.specs.Pieces.{HasBlocks, old_piece, spaces_of}
use Rattle.host_moves.specs.Standing.{IsPieceThere, IsOf, table_of}
use Rattle.host_instances.specs.Ends.{sharers_among}

-- each instance and each group has its blocks of the memory map, where group g may have blocks without members
pub record AgreeWithMapBut {M : Type 0} (g : ℕ) (instances : List (Option (Member M))) (sharing : List Locations) (groups : List Group) (spaces : Spaces) : Type 0 where
  pub owners : (i : ℕ) (m : Member M) → slot_at instances i ≡ Some m → IsPieceThere spaces i (owner_of sharing i) (table_of m) (instance_of m.inst).own (shared_at sharing i) (group_at groups m.group)
  pub least : AreLeast sharing
  pub together : AreTogether instances sharing
  pub free : (i : ℕ) → slot_at instances i ≡ None → shared_at sharing i ≡ no_pieces
  pub gone : (i k : ℕ) (space : Space) → slot_at instances i ≡ None → owned (Record i k) (blocks_in (map_of spaces) space) ≡ []
  pub blocks : (k : ℕ) → HasBlocks (map_of spaces) k (group_at groups k)
  pub regions : (k : ℕ) (space : Space) → IsOf (space_in spaces space).region (block_piece (block_in (group_at groups k) space))
  pub unused : (k : ℕ) (space : Space) → k ≢ g → ((i : ℕ) → is_member_of k (slot_at instances i) ≡ false) → block_in (group_at groups k) space ≡ None

-- the same, of all that the tables hold
abbrev pub MapAgreesBut : {M : Type 0} → ℕ → View M → Spaces → Type 0
MapAgreesBut g t spaces = AgreeWithMapBut g t.instances t.sharing t.groups spaces

-- these are the spaces of the instance's records
abbrev pub AreSpacesOfRecords : {M : Type 0} → List (Option (Member M)) → ℕ → List Space → Type 0
AreSpacesOfRecords {M} instances i places = (m : Member M) → slot_at instances i ≡ Some m → places ≡ spaces_of (instance_of m.inst).table

-- the blocks of the instance's records go out of the memory map, but for those that others share: they are their sharers'
abbrev pub LeavesItsRecords : {M : Type 0} → Laws M → ℕ → View M → Spaces → View M → Spaces → Type 0
LeavesItsRecords laws i old spaces new spaces' = map_of spaces' ≡ without_owners (is_instance's i)
    (renamed (handed_on (sharers_among laws.meaning.same new.instances (asked_by (slot_at old.instances i))) i) (map_of spaces))

-- the pieces are those of the group's blocks
abbrev pub AreBlocksOf : ℕ → List Group → OldBlocks → Type 0
AreBlocksOf g groups pieces = (space : Space) → old_piece pieces space ≡ block_piece (block_in (group_at groups g) space)

-- with the one groups and with the others each instance keeps the same history, in a host of any poison word, or of none
abbrev pub HistoriesStayWith : {M : Type 0} → Laws M → List (Option (Member M)) → List Locations → List Group → List Group → Type 0
HistoriesStayWith laws instances sharing groups groups' = (w : Option ℤ) (histories : ℕ → History) → HistoriesRefine laws w instances sharing groups histories
    → HistoriesRefine laws w instances sharing groups' histories
