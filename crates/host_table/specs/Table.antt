-- The tables of a host: a slot for each instance number, the pieces of its write-once records, and the groups.
use Rattle.std.specs.Prelude.{ℕ, ℤ, ◌≡◌, ◌≢◌, ◌⊎◌, ◌<◌, Bool, false, List, length, Option, Some, None, nat_eq, slice_index_or}
use Rattle.mem_rec.specs.declared.MemRec.{MemRec}
use Rattle.mem_rec.specs.declared.Space.{Space}
use Rattle.mem_rec.specs.declared.Attr.TheVariants.{WriteOnce}
use Rattle.ialg.specs.Records.{record_at}
use Rattle.record_loans.specs.declared.pieces.Pieces.{Pieces}
use Rattle.scratch_group.specs.declared.group.Group.{Group}
use Rattle.host_map.specs.Activity.{Activity, never_activated, newly_active, without_active, activated, deactivated, with_at}
use Rattle.scratch_group.specs.Blocks.{BlocksArePoison, block_in}
use Rattle.scratch_group.specs.Words.{placed}
use Rattle.lifecycle.specs.declared.instance.Instance.{Instance}
use Rattle.lifecycle.specs.declared.instance.Inst.{Inst}
use Rattle.lifecycle.specs.declared.instance.Inst.TheVariants.{Idling, Running}
use Rattle.lifecycle.specs.States.{Fits}
use Rattle.lifecycle.specs.Moves.{HasRoom}
use Rattle.mem_rec.specs.declared.TheConstants.{INSTANCES, GROUPS}
use Rattle.host_table.specs.declared.member.Member.{Member}
use Rattle.host_shared.specs.declared.locations.Location.{Location}
use Rattle.host_shared.specs.declared.locations.Location.TheVariants.{At}
use Rattle.host_shared.specs.declared.locations.Locations.{Locations}
use Rattle.record_loans.specs.Pieces.{no_pieces}
use Rattle.host_shared.specs.Locations.{location_at, no_locations, locations_at, shared_at}
use Rattle.host_shared.specs.Owners.{IsPieceHere}

-- what stands in a slot, none past the end
abbrev pub slot_at : {M : Type 0} → List (Option (Member M)) → ℕ → Option (Member M)
slot_at instances i = slice_index_or instances i None

abbrev pub no_group : Group
no_group = record { daram = None; saram = None; external = None; active = None; activations = 0 }

abbrev pub group_at : List Group → ℕ → Group
group_at groups g = slice_index_or groups g no_group

abbrev pub instance_of : {M : Type 0} → Inst M → Instance M
instance_of (Idling s) = s.instance
instance_of (Running s) = s.instance

-- the pieces of its own records
abbrev pub own_of : {M : Type 0} → Option (Member M) → Pieces
own_of None = no_pieces
own_of (Some m) = (instance_of m.inst).own

-- the group of the instance in a slot
abbrev pub group_of : {M : Type 0} → Option (Member M) → ℕ
group_of None = 0
group_of (Some m) = m.group

-- whether the slot has a member of group g
abbrev pub is_member_of : {M : Type 0} → ℕ → Option (Member M) → Bool
is_member_of g None = false
is_member_of g (Some m) = nat_eq m.group g

-- the group in which an instance is active
abbrev pub active_in : {M : Type 0} → ℕ → Inst M → Option ℕ
active_in g (Idling s) = None
active_in g (Running s) = Some g

abbrev pub slot_active_in : {M : Type 0} → Option (Member M) → Option ℕ
slot_active_in None = None
slot_active_in (Some m) = active_in m.group m.inst

-- the instance in slot i is active, in its group
abbrev pub IsActiveAt : {M : Type 0} → List (Option (Member M)) → ℕ → Type 0
IsActiveAt instances i = slot_active_in (slot_at instances i) ≡ Some (group_of (slot_at instances i))

-- the instance has the words of its records, and goes by their places
pub record IsHoused {M : Type 0} (s : Instance M) (shared : Pieces) (g : Group) : Type 0 where
  pub fits : Fits s.table s.own shared g
  pub settled : s.table ≡ placed s.table s.own shared g

-- a record without its base
abbrev pub unbased : MemRec → MemRec
unbased r = record r { base = 0 }

-- the instances are of one kind with equal parameters, and record k of both is write-once, with one size, alignment and space
pub record AreAlike {M : Type 0} (k : ℕ) (a b : Instance M) : Type 0 where
  pub kind : b.kind ≡ a.kind
  pub params : b.params ≡ a.params
  pub once : (record_at a.table k).attr ≡ WriteOnce
  pub shape : unbased (record_at b.table k) ≡ unbased (record_at a.table k)

-- both slots have instances, which are alike in record k, and the second owns its piece
abbrev pub IsSharer : {M : Type 0} → ℕ → Option (Member M) → Option (Member M) → Location → Type 0
IsSharer k None owner s = ⊥
IsSharer k (Some m) None s = ⊥
IsSharer k (Some m) (Some n) s = AreAlike k (instance_of m.inst) (instance_of n.inst) × IsPieceHere s

-- a location names an owner only where both share the record
abbrev pub AreHeld : {M : Type 0} → List (Option (Member M)) → List Locations → Type 0
AreHeld instances sharing = (i k owner : ℕ) → location_at (locations_at sharing i) k ≡ At owner → IsSharer k (slot_at instances i) (slot_at instances owner) (location_at (locations_at sharing owner) k)

-- an empty slot has no locations
abbrev pub AreBare : {M : Type 0} → List (Option (Member M)) → List Locations → Type 0
AreBare instances sharing = (i : ℕ) → slot_at instances i ≡ None → locations_at sharing i ≡ no_locations

-- what holds of the tables, where this holds of each instance with its write-once pieces and its group
pub record Tables {M : Type 0} (holds : ℕ → Member M → Pieces → Group → Type 0) (instances : List (Option (Member M))) (sharing : List Locations) (groups : List Group) : Type 0 where
  pub slot_count : length instances ≡ INSTANCES
  pub sharing_count : length sharing ≡ INSTANCES
  pub group_count : length groups ≡ GROUPS
  pub held : AreHeld instances sharing
  pub bare : AreBare instances sharing
  pub group_range : (i : ℕ) (m : Member M) → slot_at instances i ≡ Some m → m.group < GROUPS
  pub housed : (i : ℕ) (m : Member M) → slot_at instances i ≡ Some m → holds i m (shared_at sharing i) (group_at groups m.group)
  pub active_there : (g i : ℕ) → g < GROUPS → (group_at groups g).active ≡ Some i → slot_active_in (slot_at instances i) ≡ Some g
  pub active_known : (g i : ℕ) → slot_active_in (slot_at instances i) ≡ Some g → (group_at groups g).active ≡ Some i

-- each instance is housed
abbrev pub EachIsHoused : {M : Type 0} → ℕ → Member M → Pieces → Group → Type 0
EachIsHoused i m o y = IsHoused (instance_of m.inst) o y

-- what holds of the tables between two calls
abbrev pub TablesOk : {M : Type 0} → List (Option (Member M)) → List Locations → List Group → Type 0
TablesOk instances sharing groups = Tables EachIsHoused instances sharing groups

-- a block of group g was replaced or moved, and so far its members below n were told
pub record IsTold {M : Type 0} (g n i : ℕ) (m : Member M) (o : Pieces) (y : Group) : Type 0 where
  pub told : (m.group ≢ g) ⊎ (i < n) → IsHoused (instance_of m.inst) o y
  pub waits : m.group ≡ g → HasRoom (instance_of m.inst) o y

abbrev pub TablesTold : {M : Type 0} → ℕ → ℕ → List (Option (Member M)) → List Locations → List Group → Type 0
TablesTold g n instances sharing groups = Tables (IsTold g n) instances sharing groups

-- where no member is active, the blocks hold the host's poison word
abbrev pub ArePoisoned : Option ℤ → List Group → Type 0
ArePoisoned w groups = (g : ℕ) → g < GROUPS → (group_at groups g).active ≡ None → BlocksArePoison w (group_at groups g)

abbrev pub activity_at : List Group → ℕ → Activity
activity_at groups g = record { active = (group_at groups g).active; count = (group_at groups g).activations }

-- the groups have these activities
abbrev pub ActivitiesAre : List Group → (ℕ → Activity) → Type 0
ActivitiesAre groups activities = (k : ℕ) → activity_at groups k ≡ activities k

-- each group has the activity that it had
abbrev pub SameActivities : List Group → List Group → Type 0
SameActivities old new = (k : ℕ) → activity_at new k ≡ activity_at old k

-- the activities after instance i was touched
abbrev pub activated_by : {M : Type 0} → List (Option (Member M)) → List Group → ℕ → ℕ → Activity
activated_by instances groups i =
    let g = group_of (slot_at instances i) in
    with_at (activity_at groups) g (activated i (activity_at groups g))

-- the activities after instance i was deactivated, where it was active
abbrev pub deactivated_by : {M : Type 0} → List (Option (Member M)) → List Group → ℕ → ℕ → Activity
deactivated_by instances groups i =
    let g = group_of (slot_at instances i) in
    with_at (activity_at groups) g (without_active i (activity_at groups g))

-- the activities after the active member of group g was deactivated, where it has one
abbrev pub deactivated_in : List Group → ℕ → ℕ → Activity
deactivated_in groups g = with_at (activity_at groups) g (deactivated (activity_at groups g))

-- no instance lives
abbrev pub NoneLives : {M : Type 0} → List (Option (Member M)) → Type 0
NoneLives instances = (i : ℕ) → slot_at instances i ≡ None

-- the instance in slot i isn't active
abbrev pub IsIdleAt : {M : Type 0} → List (Option (Member M)) → ℕ → Type 0
IsIdleAt instances i = slot_active_in (slot_at instances i) ≡ None

-- group g has no member
abbrev pub HasNoMembers : {M : Type 0} → List (Option (Member M)) → ℕ → Type 0
HasNoMembers instances g = (i : ℕ) → is_member_of g (slot_at instances i) ≡ false

-- no group has a block
abbrev pub NoGroupHasBlocks : List Group → Type 0
NoGroupHasBlocks groups = (g : ℕ) (space : Space) → block_in (group_at groups g) space ≡ None

-- no group was ever active
abbrev pub NoneWasActive : List Group → Type 0
NoneWasActive groups = (g : ℕ) → activity_at groups g ≡ never_activated

-- the blocks of groups without an active member hold the poison word, where they did before
abbrev pub PoisonStays : List Group → List Group → Type 0
PoisonStays old new = (w : Option ℤ) → ArePoisoned w old → ArePoisoned w new

-- the activities after instance i of group g was activated, where the group has no active member
abbrev pub newly_active_in : List Group → ℕ → ℕ → ℕ → Activity
newly_active_in groups g i = with_at (activity_at groups) g (newly_active i (activity_at groups g))
