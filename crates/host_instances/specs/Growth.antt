-- A group that gets the blocks for a new member.
use Rattle.std.specs.Prelude.{ℕ, ℤ, ◌≡◌, ◌≢◌, ◌≤◌, ◌<◌, Bool, false, List, length, Option, Some, None, if◌then◌else◌}
use Rattle.mem_rec.specs.declared.Space.{Space}
use Rattle.mem_rec.specs.declared.MemRec.{MemRec}
use Rattle.mem_rec.specs.declared.TheConstants.{GROUPS}
use Rattle.ialg.specs.Laws.{Laws}
use Rattle.ialg.specs.Records.{ArePoison}
use Rattle.record_loans.specs.declared.block.ScratchBlock.{ScratchBlock}
use Rattle.record_loans.specs.Blocks.{block_align, block_piece, block_words}
use Rattle.scratch_group.specs.declared.group.Group.{Group}
use Rattle.scratch_group.specs.Blocks.{block_in}
use Rattle.host_table.specs.declared.member.Member.{Member}
use Rattle.host_shared.specs.declared.locations.Locations.{Locations}
use Rattle.record_loans.specs.Pieces.{no_pieces}
use Rattle.host_shared.specs.Locations.{owner_of, shared_at}
use Rattle.host_table.specs.Table.{slot_at, group_at, instance_of, is_member_of, activity_at, deactivated_in, ArePoisoned}
use Rattle.host_table.specs.Steps.{AreConsistent, HistoriesStay}
use Rattle.host_table.specs.View.{View}
use Rattle.host_map.specs.Activity.{Activity}
use Rattle.host_shared.specs.Sharing.{AreLeast}
use Rattle.host_table.specs.Sharers.{AreTogether}
use Rattle.host_map.specs.declared.placed.Owner.{Owner}
use Rattle.host_map.specs.declared.placed.Owner.TheVariants.{Record, Scratch}
use Rattle.host_map.specs.Blocks.{owned}
use Rattle.host_spaces.specs.declared.pieces.NewBlocks.{NewBlocks}
use Rattle.host_spaces.specs.declared.spaces.Spaces.{Spaces}
use Rattle.host_map.specs.MemoryMap.{blocks_in}
use Rattle.host_spaces.specs.MemoryMap.{AreSameSpaces, map_of, space_in}
use Rattle.host_spaces.specs.Pieces.{HasBlocks, IsNeeded, new_block, with_new, without_pieces}
use Rattle.host_spaces.specs.Wants.{block_need}
use Rattle.host_moves.specs.Standing.{AgreeWithMap, IsPieceThere, IsOf, SameInstances, table_of}
use Rattle.host_instances.specs.Blocks.{replaced_in, replaced_pieces}
use Rattle.lifecycle.specs.Rooms.{NoNeed}

-- a new block is no smaller than the old one, and of no lower alignment
abbrev pub IsLarger : Option ScratchBlock → Option ScratchBlock → Type 0
IsLarger old None = Unit {0}
IsLarger old (Some b) = (length (block_words old) ≤ length b.piece.words) × (block_align old ≤ b.align)

-- new blocks of group g were placed in the spaces, while its old ones stand. The blocks of all instances and other groups stand as before
pub record ArePlaced {M : Type 0} (g : ℕ) (blocks : NewBlocks) (instances : List (Option (Member M))) (sharing : List Locations) (groups : List Group) (spaces : Spaces) : Type 0 where
  pub before : Spaces
  pub standing : AgreeWithMap instances sharing groups before
  pub records : (i k : ℕ) (m : Member M) (space : Space) → slot_at instances i ≡ Some m
      → owned (Record i k) (blocks_in (map_of spaces) space) ≡ owned (Record i k) (blocks_in (map_of before) space)
  pub others : (h : ℕ) (space : Space) → h ≢ g → owned (Scratch h) (blocks_in (map_of spaces) space) ≡ owned (Scratch h) (blocks_in (map_of before) space)
  pub placed : (space : Space) → owned (Scratch g) (blocks_in (map_of spaces) space) ≡ with_new g (new_block blocks space) (owned (Scratch g) (blocks_in (map_of before) space))
  pub regions : (space : Space) → (space_in spaces space).region ≡ (space_in before space).region
  pub owner : (space : Space) → IsOf (space_in spaces space).region (block_piece (new_block blocks space))
  pub larger : (space : Space) → IsLarger (block_in (group_at groups g) space) (new_block blocks space)

-- each instance and each group has its blocks of the memory map. Group g may have blocks before it has a member
pub record AreGrown {M : Type 0} (g : ℕ) (instances : List (Option (Member M))) (sharing : List Locations) (groups : List Group) (spaces : Spaces) : Type 0 where
  pub owners : (i : ℕ) (m : Member M) → slot_at instances i ≡ Some m → IsPieceThere spaces i (owner_of sharing i) (table_of m) (instance_of m.inst).own (shared_at sharing i) (group_at groups m.group)
  pub least : AreLeast sharing
  pub together : AreTogether instances sharing
  pub free : (i : ℕ) → slot_at instances i ≡ None → shared_at sharing i ≡ no_pieces
  pub blocks : (h : ℕ) → HasBlocks (map_of spaces) h (group_at groups h)
  pub regions : (h : ℕ) (space : Space) → IsOf (space_in spaces space).region (block_piece (block_in (group_at groups h) space))
  pub unused : (h : ℕ) (space : Space) → h ≢ g → ((i : ℕ) → is_member_of h (slot_at instances i) ≡ false) → block_in (group_at groups h) space ≡ None

-- no member of group g is active where a block was replaced
abbrev pub activity_grown : Bool → List Group → ℕ → ℕ → Activity
activity_grown replaced groups g = if replaced then deactivated_in groups g else activity_at groups

-- group g can get these blocks, in a host of this poison word or of none
pub record CanGrow {M : Type 0} (poison : Option ℤ) (g : ℕ) (blocks : NewBlocks) (t : View M) (spaces : Spaces) : Type 0 where
  pub range : g < GROUPS
  pub ok : AreConsistent t
  pub poisoned : ArePoisoned poison t.groups
  pub placed : ArePlaced g blocks t.instances t.sharing t.groups spaces
  pub words : (space : Space) → ArePoison poison (block_words (new_block blocks space))

-- group g got these blocks, and the pieces of those that stood in their place are free
pub record HasGrown {M : Type 0} (laws : Laws M) (poison : Option ℤ) (g : ℕ) (blocks : NewBlocks) (old new : View M) (spaces spaces' : Spaces) : Type 0 where
  pub ok : AreConsistent new
  pub poisoned : ArePoisoned poison new.groups
  pub grown : AreGrown g new.instances new.sharing new.groups spaces'
  -- records whose need the blocks were placed for need no more
  pub need : (rs : List MemRec)
      → ((space : Space) → IsNeeded (space_in spaces space).region (block_need rs (group_at old.groups g) space) (new_block blocks space))
      → NoNeed rs (group_at new.groups g)
  pub same : SameInstances old.instances new.instances
  pub activity : (k : ℕ) → activity_at new.groups k ≡ activity_grown (replaced_in blocks (group_at old.groups g)) old.groups g k
  pub map : map_of spaces' ≡ without_pieces (map_of spaces) (replaced_pieces blocks (group_at old.groups g))
  pub others : (o : Owner) (space : Space) → o ≢ Scratch g → owned o (blocks_in (map_of spaces') space) ≡ owned o (blocks_in (map_of spaces) space)
  pub stays : AreSameSpaces spaces spaces'
  pub keeps : HistoriesStay laws poison old new

-- as AreGrown says, of all that the tables hold
abbrev pub TablesAreGrown : {M : Type 0} → ℕ → View M → Spaces → Type 0
TablesAreGrown g t spaces = AreGrown g t.instances t.sharing t.groups spaces
