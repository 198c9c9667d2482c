-- What a call of one instance does to the tables. No public contract speaks of it.
use Rattle.std.specs.Prelude.{ℕ, ℤ, ◌≡◌, List, Option, Some, slice_set}
use Rattle.ialg.specs.History.{Ctl}
use Rattle.ialg.specs.Log.{Log}
use Rattle.ialg.specs.Meaning.{Status}
use Rattle.ialg.specs.Laws.{Laws}
use Rattle.record_loans.specs.declared.pieces.Pieces.{Pieces}
use Rattle.record_loans.specs.Pieces.{SamePieces, no_pieces}
use Rattle.host_map.specs.Activity.{Activity}
use Rattle.lifecycle.specs.declared.instance.Inst.{Inst}
use Rattle.lifecycle.specs.declared.instance.Inst.TheVariants.{Idling, Running}
use Rattle.lifecycle.specs.declared.idle.Idle.{Idle}
use Rattle.lifecycle.specs.States.{SameOnce, Accepts, IsLawful, status_after}
use Rattle.lifecycle.specs.Turns.{CanBeRead}
use Rattle.host_shared.specs.declared.locations.Locations.{Locations}
use Rattle.host_shared.specs.Locations.{shared_at}
use Rattle.host_shared.specs.Owners.{with_pieces_of}
use Rattle.host_table.specs.declared.member.Member.{Member}
use Rattle.host_table.specs.Table.{slot_at, instance_of, activity_at, ArePoisoned}
use Rattle.host_table.specs.Frames.{IsEnded}
use Rattle.host_table.specs.Steps.{AreKept, GivesOut, Steps, controlled}
use Rattle.host_table.specs.View.{View}

-- an instance, idle
abbrev pub idle_of : {M : Type 0} → Inst M → Idle M
idle_of inst = record { instance = instance_of inst }

-- the idle instance of this number was told that it ends, these pieces of its own were taken out of it, and the others are back at their owners
pub record WasFreed {M : Type 0} (i : ℕ) (old new : Idle M) (sharing sharing' : List Locations) (taken : Pieces) : Type 0 where
  pub own : SamePieces old.instance.own taken
  pub seen : sharing' ≡ with_pieces_of sharing i (shared_at sharing' i)
  pub shared : SamePieces (shared_at sharing i) (shared_at sharing' i)
  pub once : SameOnce old.instance.table (shared_at sharing i) (shared_at sharing' i)
  pub left : new.instance.own ≡ no_pieces

-- instance i sees the same pieces, whose words may differ
abbrev pub SeesTheSame : ℕ → List Locations → List Locations → Type 0
SeesTheSame i old new = SamePieces (shared_at old i) (shared_at new i)

-- the instance in the slot is idle, and its own pieces were taken out
abbrev pub IsEndedAt : {M : Type 0} → List (Option (Member M)) → ℕ → Type 0
IsEndedAt {M} instances i = (m : Member M) × (slot_at instances i ≡ Some m) × IsEnded m.inst

-- the instance in the slot can be lent its records that last
abbrev pub SlotCanBeRead : {M : Type 0} → List (Option (Member M)) → List Locations → ℕ → Type 0
SlotCanBeRead {M} instances sharing i = (m : Member M) → slot_at instances i ≡ Some m → CanBeRead (instance_of m.inst) sharing i

-- each write-once record of the instance in the slot has the same words
abbrev pub SlotKeepsOnce : {M : Type 0} → List (Option (Member M)) → ℕ → List Locations → List Locations → Type 0
SlotKeepsOnce {M} instances i sharing sharing' = (m : Member M) → slot_at instances i ≡ Some m
    → SameOnce (instance_of m.inst).table (shared_at sharing i) (shared_at sharing' i)

-- the instance in the slot is idle now, and no other slot changed
abbrev pub IsMadeIdle : {M : Type 0} → ℕ → List (Option (Member M)) → List (Option (Member M)) → Type 0
IsMadeIdle {M} i old new = (m : Member M) → slot_at old i ≡ Some m
    → new ≡ slice_set old i (Some (record m { inst = Idling (record { instance = instance_of m.inst }) }))

-- the instance in the slot is active now, and no other slot changed
abbrev pub IsMadeActive : {M : Type 0} → ℕ → List (Option (Member M)) → List (Option (Member M)) → Type 0
IsMadeActive {M} i old new = (m : Member M) → slot_at old i ≡ Some m
    → new ≡ slice_set old i (Some (record m { inst = Running (record { instance = instance_of m.inst }) }))

-- as Steps says, in a host of any poison word or of none, where the blocks of groups without an active member hold it
abbrev pub StepsInAnyHost : {M : Type 0} → Laws M → View M → View M → (ℕ → Activity) → ((ℕ → Log) → ℕ → Log) → Type 0
StepsInAnyHost laws old new activities goes = (w : Option ℤ) → ArePoisoned w old.groups → Steps laws w old new activities goes

-- as GivesOut says, in any such host
abbrev pub GivesOutInAnyHost : {M : Type 0} → Laws M → View M → ℕ → List ℤ → List ℤ → Type 0
GivesOutInAnyHost laws t i input out = (w : Option ℤ) → ArePoisoned w t.groups → GivesOut laws w t i input out

-- in any such host an instance that takes the control, or isn't lawful, was given it
abbrev pub ObeysInAnyHost : {M : Type 0} → Laws M → ℕ → Ctl → View M → View M → Type 0
ObeysInAnyHost {M = M} laws i c old new = (w : Option ℤ) (m : Member M) → slot_at old.instances i ≡ Some m → ArePoisoned w old.groups
    → (IsLawful laws.meaning (instance_of m.inst) w → Accepts laws.meaning (instance_of m.inst) c)
    → Steps laws w old new (activity_at old.groups) (controlled i c)

-- what a lawful instance answers to a control that it takes, in a host of any poison word or of none
abbrev pub AnswersInAnyHost : {M : Type 0} → Laws M → View M → ℕ → Ctl → Status → Type 0
AnswersInAnyHost {M = M} laws t i c answer = (w : Option ℤ) (histories : ℕ → Log) (m : Member M) → slot_at t.instances i ≡ Some m
    → IsLawful laws.meaning (instance_of m.inst) w → Accepts laws.meaning (instance_of m.inst) c
    → AreKept laws w t histories
    → answer ≡ status_after laws.meaning (instance_of m.inst) (histories i).history c
