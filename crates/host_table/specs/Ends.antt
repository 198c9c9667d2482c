-- The end of an instance.
use Rattle.std.specs.Prelude.{ℕ, ◌≡◌, List, Some}
use Rattle.ialg.specs.Laws.{Laws}
use Rattle.host_shared.specs.declared.locations.Locations.{Locations}
use Rattle.host_shared.specs.Locations.{location_at, locations_at, owner_of}
use Rattle.host_shared.specs.Owners.{IsSameLocation}
use Rattle.host_shared.specs.Sharing.{next_sharer, location_without, AreLeast}
use Rattle.host_table.specs.declared.member.Member.{Member}
use Rattle.host_table.specs.Table.{slot_at, instance_of}
use Rattle.host_table.specs.Frames.{OthersSame}
use Rattle.host_table.specs.Sharers.{as_asked, sharer_in, AreTogether}
use Rattle.host_table.specs.View.{View}

-- as OthersSame says, of all that the tables hold
abbrev pub OtherInstancesAreSame : {M : Type 0} → ℕ → View M → View M → Type 0
OtherInstancesAreSame i old new = OthersSame i old.instances old.sharing old.groups new.instances new.sharing new.groups

-- the write-once records are where they are once instance i has gone: what it shared is with its next sharer
abbrev pub HandsOnRecords : ℕ → List Locations → List Locations → Type 0
HandsOnRecords i old new = (j k : ℕ) → IsSameLocation (location_without old i k j) (location_at (locations_at new j) k)

-- instances that are alike in a record still have it with one instance, where they had
abbrev pub StayTogether : {M : Type 0} → View M → View M → Type 0
StayTogether old new = AreTogether old.instances old.sharing → AreTogether new.instances new.sharing

-- where owners are the least of those that share a record, and those that are alike in one have it together: the next sharer of a record that
-- instance i owned is the least instance of those left that shares it
abbrev pub NextSharersAreLeast : {M : Type 0} → Laws M → ℕ → View M → View M → Type 0
NextSharersAreLeast {M} laws i old new = AreLeast old.sharing → AreTogether old.instances old.sharing
    → (k : ℕ) (m : Member M) → slot_at old.instances i ≡ Some m → owner_of old.sharing i k ≡ i
    → next_sharer old.sharing i k ≡ sharer_in laws new.instances (as_asked (instance_of m.inst)) k
