-- The start of an instance.
use Rattle.std.specs.Prelude.{ℕ, ℤ, ◌≡◌, IsTrue, [], Option, Some, None, IsSome}
use Rattle.ialg.specs.Log.{Log, begun}
use Rattle.ialg.specs.Laws.{Laws}
use Rattle.ialg.specs.Records.{unplaced, AreNew}
use Rattle.record_loans.specs.declared.pieces.Pieces.{Pieces}
use Rattle.record_loans.specs.Pieces.{piece_at, SamePieces}
use Rattle.lifecycle.specs.declared.instance.Instance.{Instance}
use Rattle.lifecycle.specs.Moves.{HasRoom, settled}
use Rattle.scratch_group.specs.Words.{idle_words}
use Rattle.host_map.specs.Sharers.{Asked, asked}
use Rattle.host_shared.specs.declared.joining.Sharers.{Sharers}
use Rattle.host_shared.specs.Joining.{sharer_at, location_joined, pieces_joined}
use Rattle.host_shared.specs.Locations.{location_at, locations_at, shared_at}
use Rattle.host_shared.specs.Owners.{IsSameLocation}
use Rattle.host_table.specs.Table.{slot_at, group_at}
use Rattle.host_table.specs.Frames.{IsStarted, OthersStay}
use Rattle.host_table.specs.Refinement.{with_log}
use Rattle.host_table.specs.Steps.{AreKept}
use Rattle.host_table.specs.View.{View}
use Rattle.host_table.specs.declared.life.NewInstance.{NewInstance}

-- what a new instance asks for
abbrev pub asked_for : {M : Type 0} → NewInstance M → Asked M
asked_for n = asked n.kind n.params.now.items n.table

-- where the table is the one that its kind asks for, and its records are new ones, a new instance begins its history, and each other
-- instance keeps the history that it kept
abbrev pub BeginsHistory : {M : Type 0} → Laws M → NewInstance M → Pieces → Pieces → View M → View M → Type 0
BeginsHistory laws n own shared old new = (w : Option ℤ) (histories : ℕ → Log)
    → (IsTrue (laws.meaning.lawful n.kind n.params.now.items w) → laws.meaning.table n.kind n.params.now.items ≡ Some (unplaced n.table))
    → AreNew w (laws.fill n.kind n.params.now.items) n.table (idle_words n.table own shared)
    → AreKept laws w old histories
    → AreKept laws w new (with_log histories n.number begun)

-- a new instance with these pieces of its own
abbrev pub instance_with : {M : Type 0} → NewInstance M → Pieces → Instance M
instance_with n own = record { kind = n.kind; params = n.params.now; table = n.table; own = own }

-- no piece was placed for a record that has a sharer
abbrev pub SharedHaveNone : Sharers → Pieces → Type 0
SharedHaveNone sharers shared = (k : ℕ) → IsSome (sharer_at sharers k) → piece_at shared k ≡ None

-- the new instance has room in the pieces that were placed for it and those of its sharers
abbrev pub HasRoomWithSharers : {M : Type 0} → NewInstance M → Pieces → Pieces → Sharers → View M → Type 0
HasRoomWithSharers n own shared sharers t = HasRoom (instance_with n own) (pieces_joined t.sharing sharers shared) (group_at t.groups n.group)

-- the new instance is in its slot, idle in its group, in the pieces that were placed for it and those of its sharers
abbrev pub IsStartedWithSharers : {M : Type 0} → NewInstance M → Pieces → Pieces → Sharers → View M → View M → Type 0
IsStartedWithSharers n own shared sharers old new = IsStarted n.group
    (settled (instance_with n own) (pieces_joined old.sharing sharers shared) (group_at old.groups n.group)) (slot_at new.instances n.number)

-- the write-once records are where they are once instance i shares them with its sharers
abbrev pub JoinsItsSharers : {M : Type 0} → ℕ → Pieces → Sharers → View M → View M → Type 0
JoinsItsSharers i shared sharers old new = (j k : ℕ)
    → IsSameLocation (location_joined old.sharing i k (sharer_at sharers k) (piece_at shared k) j) (location_at (locations_at new.sharing j) k)

-- instance i sees the pieces that were placed for it and those of its sharers
abbrev pub SeesItsPieces : {M : Type 0} → ℕ → Pieces → Sharers → View M → View M → Type 0
SeesItsPieces i shared sharers old new = SamePieces (pieces_joined old.sharing sharers shared) (shared_at new.sharing i)

-- as OthersStay says, of all that the tables hold
abbrev pub OtherInstancesStay : {M : Type 0} → ℕ → View M → View M → Type 0
OtherInstancesStay i old new = OthersStay i old.instances old.sharing new.instances new.sharing
