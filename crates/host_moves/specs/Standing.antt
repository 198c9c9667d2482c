-- Instances and groups whose records and blocks stand where the memory map shows them.
use Rattle.std.specs.Prelude.{ℕ, ℤ, ◌≡◌, ◌≢◌, false, IsTrue, List, [], Option, Some, None, MatchOption}
use Rattle.space_raw.specs.Span.{Extent, Span}
use Rattle.mem_rec.specs.declared.MemRec.{MemRec}
use Rattle.mem_rec.specs.declared.Space.{Space}
use Rattle.mem_rec.specs.Records.{is_table}
use Rattle.ialg.specs.Records.{record_at, unplaced}
use Rattle.record_loans.specs.declared.pieces.Pieces.{Pieces}
use Rattle.record_loans.specs.Blocks.{block_piece}
use Rattle.scratch_group.specs.declared.group.Group.{Group}
use Rattle.scratch_group.specs.Blocks.{block_in}
use Rattle.lifecycle.specs.Rooms.{NoNeed, piece_of_record}
use Rattle.host_table.specs.declared.member.Member.{Member}
use Rattle.host_shared.specs.declared.locations.Locations.{Locations}
use Rattle.record_loans.specs.Pieces.{no_pieces}
use Rattle.host_shared.specs.Locations.{owner_of, shared_at}
use Rattle.host_table.specs.Table.{slot_at, group_at, instance_of, is_member_of, ArePoisoned}
use Rattle.host_table.specs.Steps.{AreConsistent}
use Rattle.host_table.specs.View.{View}
use Rattle.host_shared.specs.Sharing.{AreLeast}
use Rattle.host_table.specs.Sharers.{AreTogether}
use Rattle.host_map.specs.declared.placed.Owner.TheVariants.{Record}
use Rattle.host_map.specs.Blocks.{owned}
use Rattle.host_spaces.specs.Spaces.{AreInOrder}
use Rattle.host_spaces.specs.declared.spaces.Spaces.{Spaces}
use Rattle.host_map.specs.MemoryMap.{blocks_in}
use Rattle.host_spaces.specs.MemoryMap.{map_of, space_in}
use Rattle.host_spaces.specs.Pieces.{HasBlocks, ArePiecesOf, record_block}

-- instance i, whose table without bases is rs, has a block of the memory map for each record that lasts, which is the record's of the
-- instance with which it stands; no other block is its own; and its group's blocks are large enough
pub record IsPieceThere (spaces : Spaces) (i : ℕ) (owner : ℕ → ℕ) (rs : List MemRec) (own shared : Pieces) (y : Group) : Type 0 where
  pub valid : IsTrue (is_table rs)
  pub need : NoNeed rs y
  pub records : (k : ℕ) (space : Space) → owned (Record (owner k) k) (blocks_in (map_of spaces) space) ≡ record_block (owner k) k (record_at rs k) space (piece_of_record rs own shared k)
  pub away : (k : ℕ) (space : Space) → owner k ≢ i → owned (Record i k) (blocks_in (map_of spaces) space) ≡ []
  pub pieces : ArePiecesOf spaces rs own shared

-- a piece is of this space
abbrev pub IsOf : Extent → Option Span → Type 0
IsOf owner p = MatchOption p (Unit {0}) (λ s. s.region ≡ owner)

-- the table of an instance, without bases
abbrev pub table_of : {M : Type 0} → Member M → List MemRec
table_of m = unplaced (instance_of m.inst).table

-- each instance and each group has its blocks of the memory map, and no block is anybody else's
pub record AgreeWithMap {M : Type 0} (instances : List (Option (Member M))) (sharing : List Locations) (groups : List Group) (spaces : Spaces) : Type 0 where
  pub owners : (i : ℕ) (m : Member M) → slot_at instances i ≡ Some m → IsPieceThere spaces i (owner_of sharing i) (table_of m) (instance_of m.inst).own (shared_at sharing i) (group_at groups m.group)
  -- instances that are alike in a write-once record share its block, which is that of the least of them
  pub least : AreLeast sharing
  pub together : AreTogether instances sharing
  pub free : (i : ℕ) → slot_at instances i ≡ None → shared_at sharing i ≡ no_pieces
  pub gone : (i k : ℕ) (space : Space) → slot_at instances i ≡ None → owned (Record i k) (blocks_in (map_of spaces) space) ≡ []
  pub blocks : (g : ℕ) → HasBlocks (map_of spaces) g (group_at groups g)
  pub regions : (g : ℕ) (space : Space) → IsOf (space_in spaces space).region (block_piece (block_in (group_at groups g) space))
  -- a group without members has no blocks
  pub unused : (g : ℕ) (space : Space) → ((i : ℕ) → is_member_of g (slot_at instances i) ≡ false) → block_in (group_at groups g) space ≡ None

-- the memory map agrees with the tables
abbrev pub MapAgrees : {M : Type 0} → View M → Spaces → Type 0
MapAgrees t spaces = AgreeWithMap t.instances t.sharing t.groups spaces

-- the blocks of each space are in place order, and no two of them meet
abbrev pub AreOrdered : Spaces → Type 0
AreOrdered spaces = (space : Space) → AreInOrder (space_in spaces space).region.size (blocks_in (map_of spaces) space)

-- the same instance, which may go by other bases and have its pieces elsewhere
pub record IsSameKind {M : Type 0} (m n : Member M) : Type 0 where
  pub group : n.group ≡ m.group
  pub kind : (instance_of n.inst).kind ≡ (instance_of m.inst).kind
  pub params : (instance_of n.inst).params ≡ (instance_of m.inst).params
  pub table : table_of n ≡ table_of m

abbrev pub SlotIsSame : {M : Type 0} → Option (Member M) → Option (Member M) → Type 0
SlotIsSame None new = new ≡ None
SlotIsSame (Some m) None = ⊥
SlotIsSame (Some m) (Some n) = IsSameKind m n

-- the same instances
abbrev pub SameInstances : {M : Type 0} → List (Option (Member M)) → List (Option (Member M)) → Type 0
SameInstances instances instances' = (i : ℕ) → SlotIsSame (slot_at instances i) (slot_at instances' i)

-- in a host of any poison word, or of none, blocks that nobody uses hold it still
abbrev pub PoisonStaysInTables : {M : Type 0} → View M → View M → Type 0
PoisonStaysInTables old new = (w : Option ℤ) → ArePoisoned w old.groups → ArePoisoned w new.groups

-- what holds of the tables and the spaces of a host: the tables are consistent, records and blocks are where the memory map shows them, and
-- blocks that nobody uses hold the poison word
pub record AreSound {M : Type 0} (w : Option ℤ) (t : View M) (spaces : Spaces) : Type 0 where
  pub ok : AreConsistent t
  pub standing : MapAgrees t spaces
  pub poisoned : ArePoisoned w t.groups
