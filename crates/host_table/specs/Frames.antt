-- What stays where only states and words change.
use Rattle.std.specs.Prelude.{ℕ, ◌≡◌, ◌≢◌, List, Option, Some, None, ◌⊎◌}
use Rattle.mem_rec.specs.declared.Space.{Space}
use Rattle.record_loans.specs.Pieces.{SamePieces, no_pieces}
use Rattle.record_loans.specs.Blocks.{IsSameBlock}
use Rattle.scratch_group.specs.declared.group.Group.{Group}
use Rattle.scratch_group.specs.Blocks.{block_in}
use Rattle.lifecycle.specs.declared.instance.Instance.{Instance}
use Rattle.lifecycle.specs.declared.instance.Inst.{Inst}
use Rattle.lifecycle.specs.declared.instance.Inst.TheVariants.{Idling, Running}
use Rattle.lifecycle.specs.States.{SameInstance, SameOnce}
use Rattle.ialg.specs.Records.{unplaced}
use Rattle.host_table.specs.declared.member.Member.{Member}
use Rattle.host_shared.specs.declared.locations.Locations.{Locations}
use Rattle.host_shared.specs.Owners.{SameLocations}
use Rattle.host_table.specs.Table.{slot_at, group_at, instance_of}
use Rattle.host_shared.specs.Locations.{shared_at}

-- the same instance in the same group, in either state, at the same places
abbrev pub SameSlot : {M : Type 0} → Option (Member M) → Option (Member M) → Type 0
SameSlot None new = new ≡ None
SameSlot (Some m) None = ⊥
SameSlot (Some m) (Some n) = (n.group ≡ m.group) × SameInstance (instance_of m.inst) (instance_of n.inst)

-- the same instances and blocks, all at the same places
pub record SameTables {M : Type 0} (instances : List (Option (Member M))) (sharing : List Locations) (groups : List Group)
    (instances' : List (Option (Member M))) (sharing' : List Locations) (groups' : List Group) : Type 0 where
  pub slot : (i : ℕ) → SameSlot (slot_at instances i) (slot_at instances' i)
  pub pieces : (i : ℕ) → SamePieces (shared_at sharing i) (shared_at sharing' i)
  pub stands : SameLocations sharing sharing'
  -- no write-once record has other words
  pub written : (i : ℕ) (m : Member M) → slot_at instances i ≡ Some m → SameOnce (instance_of m.inst).table (shared_at sharing i) (shared_at sharing' i)
  pub blocks : (g : ℕ) (space : Space) → IsSameBlock (block_in (group_at groups g) space) (block_in (group_at groups' g) space)

-- all other instances are as they were, and see the same pieces, whose words may differ
pub record OthersStay {M : Type 0} (i : ℕ) (instances : List (Option (Member M))) (sharing : List Locations) (instances' : List (Option (Member M))) (sharing' : List Locations) : Type 0 where
  pub slot : (j : ℕ) → j ≢ i → slot_at instances' j ≡ slot_at instances j
  pub pieces : (j : ℕ) → j ≢ i → SamePieces (shared_at sharing j) (shared_at sharing' j)

-- an idle one
abbrev pub IsIdle : {M : Type 0} → Instance M → Inst M → Type 0
IsIdle s (Idling idle) = SameInstance s idle.instance
IsIdle s (Running active) = ⊥

-- the slot has this instance, idle in group g
abbrev pub IsStarted : {M : Type 0} → ℕ → Instance M → Option (Member M) → Type 0
IsStarted g s None = ⊥
IsStarted g s (Some m) = (m.group ≡ g) × IsIdle s m.inst

-- an idle one whose own pieces were taken out
abbrev pub IsEnded : {M : Type 0} → Inst M → Type 0
IsEnded (Idling idle) = idle.instance.own ≡ no_pieces
IsEnded (Running active) = ⊥

-- all other instances and the blocks are the same, all at the same places
pub record OthersSame {M : Type 0} (i : ℕ) (instances : List (Option (Member M))) (sharing : List Locations) (groups : List Group)
    (instances' : List (Option (Member M))) (sharing' : List Locations) (groups' : List Group) : Type 0 where
  pub slot : (j : ℕ) → j ≢ i → SameSlot (slot_at instances j) (slot_at instances' j)
  pub pieces : (j : ℕ) → j ≢ i → SamePieces (shared_at sharing j) (shared_at sharing' j)
  pub blocks : (g : ℕ) (space : Space) → IsSameBlock (block_in (group_at groups g) space) (block_in (group_at groups' g) space)

-- all other groups have the blocks that they had
abbrev pub OtherGroupsStay : ℕ → List Group → List Group → Type 0
OtherGroupsStay g old new = (k : ℕ) (space : Space) → k ≢ g → block_in (group_at new k) space ≡ block_in (group_at old k) space

-- all other blocks than that of group g in this space are the same
abbrev pub OtherBlocksStay : ℕ → Space → List Group → List Group → Type 0
OtherBlocksStay g space old new = (k : ℕ) (other : Space) → (k ≢ g) ⊎ (other ≢ space) → block_in (group_at new k) other ≡ block_in (group_at old k) other

-- a group without an active member is as it was
abbrev pub InactiveGroupsStay : List Group → List Group → Type 0
InactiveGroupsStay groups groups' = (g : ℕ) → (group_at groups g).active ≡ None → group_at groups' g ≡ group_at groups g

-- the same instance in the same state, that may go by other bases
pub record SameMember {M : Type 0} (m n : Member M) : Type 0 where
  pub group : n.group ≡ m.group
  pub kind : (instance_of n.inst).kind ≡ (instance_of m.inst).kind
  pub params : (instance_of n.inst).params ≡ (instance_of m.inst).params
  pub table : unplaced (instance_of n.inst).table ≡ unplaced (instance_of m.inst).table
  pub own : SamePieces (instance_of m.inst).own (instance_of n.inst).own

abbrev pub IsSameMember : {M : Type 0} → Option (Member M) → Option (Member M) → Type 0
IsSameMember None new = new ≡ None
IsSameMember (Some m) None = ⊥
IsSameMember (Some m) (Some n) = SameMember m n

-- the same instances and blocks, all at the same places, that may go by other bases
pub record SameMembers {M : Type 0} (instances : List (Option (Member M))) (sharing : List Locations) (groups : List Group)
    (instances' : List (Option (Member M))) (sharing' : List Locations) (groups' : List Group) : Type 0 where
  pub slot : (i : ℕ) → IsSameMember (slot_at instances i) (slot_at instances' i)
  pub pieces : (i : ℕ) → SamePieces (shared_at sharing i) (shared_at sharing' i)
  pub stands : SameLocations sharing sharing'
  pub blocks : (g : ℕ) (space : Space) → IsSameBlock (block_in (group_at groups g) space) (block_in (group_at groups' g) space)

-- all other slots are as they were
abbrev pub OtherSlotsStay : {M : Type 0} → ℕ → List (Option (Member M)) → List (Option (Member M)) → Type 0
OtherSlotsStay i old new = (j : ℕ) → j ≢ i → slot_at new j ≡ slot_at old j
