-- Records and blocks that lie elsewhere.
use Rattle.std.specs.Prelude.{ℕ, ◌≡◌, ◌≢◌, Bool, true, false, List, Option, Some, None, nat_eq, nat_lt, slice_set, if◌then◌else◌}
use Rattle.space_raw.specs.Span.{Span}
use Rattle.mem_rec.specs.declared.Space.{Space}
use Rattle.record_loans.specs.declared.block.ScratchBlock.{ScratchBlock}
use Rattle.record_loans.specs.declared.pieces.Pieces.{Pieces}
use Rattle.record_loans.specs.Pieces.{piece_at, piece_words, with_piece}
use Rattle.record_loans.specs.Blocks.{block_words}
use Rattle.scratch_group.specs.declared.group.Group.{Group}
use Rattle.scratch_group.specs.Blocks.{block_in}
use Rattle.lifecycle.specs.declared.instance.Inst.{Inst}
use Rattle.lifecycle.specs.declared.instance.Inst.TheVariants.{Idling, Running}
use Rattle.host_table.specs.declared.member.Member.{Member}
use Rattle.host_shared.specs.declared.locations.Locations.{Locations}
use Rattle.lifecycle.specs.Moves.{restored, CanRestore, with_back, HasRoom}
use Rattle.host_shared.specs.Locations.{owner_of, shared_at}
use Rattle.host_shared.specs.Owners.{with_pieces_of}
use Rattle.host_table.specs.Table.{slot_at, group_at, own_of, instance_of, active_in, slot_active_in, Tables, IsHoused}
use Rattle.host_table.specs.View.{View}

-- an instance with these pieces for its own records
abbrev pub inst_with : {M : Type 0} → Inst M → Pieces → Inst M
inst_with (Idling s) own = Idling (record s { instance = record s.instance { own = own } })
inst_with (Running s) own = Running (record s { instance = record s.instance { own = own } })

abbrev pub slot_with : {M : Type 0} → Option (Member M) → Pieces → Option (Member M)
slot_with None own = None
slot_with (Some m) own = Some (record m { inst = inst_with m.inst own })

-- the slots, where instance i has these pieces
abbrev pub own_set : {M : Type 0} → List (Option (Member M)) → ℕ → Pieces → List (Option (Member M))
own_set instances i own = slice_set instances i (slot_with (slot_at instances i) own)

-- the piece of record k that instance i has for its own
abbrev pub piece_owned : {M : Type 0} → List (Option (Member M)) → ℕ → ℕ → Option Span
piece_owned instances i k = piece_at (own_of (slot_at instances i)) k

-- the slots, where that piece was taken out
abbrev pub without_owned : {M : Type 0} → List (Option (Member M)) → ℕ → ℕ → List (Option (Member M))
without_owned instances i k = own_set instances i (with_piece (own_of (slot_at instances i)) k None)

-- the tables, with the piece that comes back at instance i, if one does
abbrev pub restored_at : {M : Type 0} → View M → ℕ → Option (ℕ × Span) → View M
restored_at t i back = record t { instances = own_set t.instances i (restored back (own_of (slot_at t.instances i))) }

-- among the own pieces of instance i is room for the one that comes back, if one does
abbrev pub CanComeBack : {M : Type 0} → ℕ → Option (ℕ × Span) → View M → Type 0
CanComeBack i back t = CanRestore back (own_of (slot_at t.instances i))

-- what stands in slot i has room, with the piece that comes back, where its records lie
abbrev pub SlotHasRoom : {M : Type 0} → ℕ → Option (ℕ × Span) → View M → Type 0
SlotHasRoom {M = M} i back t = (m : Member M) → slot_at t.instances i ≡ Some m
    → HasRoom (with_back (instance_of m.inst) back) (shared_at t.sharing i) (group_at t.groups m.group)

-- the tables, whatever holds of their instances
abbrev pub IsThere : {M : Type 0} → ℕ → Member M → Pieces → Group → Type 0
IsThere j m o y = Unit {0}

abbrev pub TablesThere : {M : Type 0} → List (Option (Member M)) → List Locations → List Group → Type 0
TablesThere instances sharing groups = Tables IsThere instances sharing groups

-- the same, of all that the tables hold
abbrev pub AreThere : {M : Type 0} → View M → Type 0
AreThere t = TablesThere t.instances t.sharing t.groups

-- each instance but i is housed
abbrev pub IsHousedBut : {M : Type 0} → ℕ → ℕ → Member M → Pieces → Group → Type 0
IsHousedBut i j m o y = j ≢ i → IsHoused (instance_of m.inst) o y

abbrev pub TablesBut : {M : Type 0} → ℕ → List (Option (Member M)) → List Locations → List Group → Type 0
TablesBut i instances sharing groups = Tables (IsHousedBut i) instances sharing groups

-- the same, of all that the tables hold
abbrev pub AreConsistentBut : {M : Type 0} → ℕ → View M → Type 0
AreConsistentBut i t = TablesBut i t.instances t.sharing t.groups

-- those that wait to be told have room where their records lie, and each other one is housed
pub record IsWaiting {M : Type 0} (waits : ℕ → Bool) (j : ℕ) (m : Member M) (o : Pieces) (y : Group) : Type 0 where
  pub told : waits j ≡ false → IsHoused (instance_of m.inst) o y
  pub room : waits j ≡ true → HasRoom (instance_of m.inst) o y

abbrev pub TablesWaiting : {M : Type 0} → (ℕ → Bool) → List (Option (Member M)) → List Locations → List Group → Type 0
TablesWaiting waits instances sharing groups = Tables (IsWaiting waits) instances sharing groups

-- the same, while the pieces of instance i are away or it isn't told
abbrev pub IsWaitingBut : {M : Type 0} → (ℕ → Bool) → ℕ → ℕ → Member M → Pieces → Group → Type 0
IsWaitingBut waits i j m o y = j ≢ i → IsWaiting waits j m o y

abbrev pub TablesWaitingBut : {M : Type 0} → (ℕ → Bool) → ℕ → List (Option (Member M)) → List Locations → List Group → Type 0
TablesWaitingBut waits i instances sharing groups = Tables (IsWaitingBut waits i) instances sharing groups

-- all of them but i
abbrev pub all_but : (ℕ → Bool) → ℕ → ℕ → Bool
all_but waits i j = if nat_eq j i then false else waits j

-- whoever waits to be told, while instance i isn't there, waits still, but not instance i
abbrev pub WaitsNoLonger : {M : Type 0} → ℕ → View M → View M → Type 0
WaitsNoLonger i old new = (waits : ℕ → Bool) → TablesWaitingBut waits i old.instances old.sharing old.groups
    → TablesWaiting (all_but waits i) new.instances new.sharing new.groups

-- those of them from number n on
abbrev pub all_from : (ℕ → Bool) → ℕ → ℕ → Bool
all_from waits n j = if nat_lt j n then false else waits j

-- the locations, where the piece of record k of instance i is this one
abbrev pub slid_to : List Locations → ℕ → ℕ → Span → List Locations
slid_to sharing i k q = with_pieces_of sharing i (with_piece (shared_at sharing i) k (Some q))

-- those that share record k with its owner i, and the owner
abbrev pub holds_with : List Locations → ℕ → ℕ → ℕ → Bool
holds_with sharing i k j = nat_eq (owner_of sharing j k) i

-- all those wait to be told
abbrev pub SharersWait : {M : Type 0} → ℕ → ℕ → View M → Type 0
SharersWait i k t = TablesWaiting (holds_with t.sharing i k) t.instances t.sharing t.groups

-- those of them from number n on
abbrev pub SharersWaitFrom : {M : Type 0} → ℕ → ℕ → ℕ → View M → Type 0
SharersWaitFrom n i k t = TablesWaiting (all_from (holds_with t.sharing i k) n) t.instances t.sharing t.groups

-- the same words, wherever the pieces lie
abbrev pub SameWords : Pieces → Pieces → Type 0
SameWords old new = (k : ℕ) → piece_words (piece_at new k) ≡ piece_words (piece_at old k)

-- the same instance in the same state, that goes by the same bases and has the same words
pub record MemberStays {M : Type 0} (m n : Member M) : Type 0 where
  pub group : n.group ≡ m.group
  pub state : active_in m.group n.inst ≡ active_in m.group m.inst
  pub kind : (instance_of n.inst).kind ≡ (instance_of m.inst).kind
  pub params : (instance_of n.inst).params ≡ (instance_of m.inst).params
  pub table : (instance_of n.inst).table ≡ (instance_of m.inst).table
  pub own : SameWords (instance_of m.inst).own (instance_of n.inst).own

abbrev pub SlotStays : {M : Type 0} → Option (Member M) → Option (Member M) → Type 0
SlotStays None new = new ≡ None
SlotStays (Some m) None = ⊥
SlotStays (Some m) (Some n) = MemberStays m n

-- a block that stood there before has the same words
abbrev pub BlockStays : Option ScratchBlock → Option ScratchBlock → Type 0
BlockStays None new = Unit {0}
BlockStays (Some b) new = block_words new ≡ b.piece.words

-- the same instances in the same states, whose words are the same; those of a group's blocks, where one of its members is active
pub record WordsStay {M : Type 0} (instances : List (Option (Member M))) (sharing : List Locations) (groups : List Group)
    (instances' : List (Option (Member M))) (sharing' : List Locations) (groups' : List Group) : Type 0 where
  pub slot : (i : ℕ) → SlotStays (slot_at instances i) (slot_at instances' i)
  pub pieces : (i : ℕ) → SameWords (shared_at sharing i) (shared_at sharing' i)
  pub blocks : (g i : ℕ) (space : Space) → slot_active_in (slot_at instances i) ≡ Some g → BlockStays (block_in (group_at groups g) space) (block_in (group_at groups' g) space)
