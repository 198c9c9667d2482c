-- Which logs the instances of a host refine.
use Rattle.std.specs.Prelude.{ℕ, ℤ, List, Option, Some, None, nat_eq, if◌then◌else◌}
use Rattle.ialg.specs.History.{History}
use Rattle.ialg.specs.Log.{Called, Log}
use Rattle.ialg.specs.Laws.{Laws}
use Rattle.record_loans.specs.declared.pieces.Pieces.{Pieces}
use Rattle.scratch_group.specs.declared.group.Group.{Group}
use Rattle.lifecycle.specs.declared.instance.Inst.{Inst}
use Rattle.lifecycle.specs.declared.instance.Inst.TheVariants.{Idling, Running}
use Rattle.lifecycle.specs.States.{IdleRefines, ActiveRefines}
use Rattle.host_table.specs.declared.member.Member.{Member}
use Rattle.host_shared.specs.declared.locations.Locations.{Locations}
use Rattle.host_table.specs.Table.{slot_at, group_at}
use Rattle.host_shared.specs.Locations.{shared_at}

-- an idle instance refines its log by its pieces, an active one by these and its group's blocks
abbrev pub InstRefines : {M : Type 0} → Laws M → Option ℤ → Inst M → Pieces → Group → Log → Type 0
InstRefines laws w (Idling s) shared g h = IdleRefines laws s.instance w shared h
InstRefines laws w (Running s) shared g h = ActiveRefines laws s.instance w shared g h

-- an empty slot refines any log
abbrev pub SlotRefines : {M : Type 0} → Laws M → Option ℤ → Option (Member M) → Pieces → List Group → Log → Type 0
SlotRefines laws w None shared groups h = Unit {0}
SlotRefines laws w (Some m) shared groups h = InstRefines laws w m.inst shared (group_at groups m.group) h

-- each slot refines its log, in a host of this poison word or of none
abbrev pub SlotsRefine : {M : Type 0} → Laws M → Option ℤ → List (Option (Member M)) → List Locations → List Group → (ℕ → Log) → Type 0
SlotsRefine laws w instances sharing groups histories = (i : ℕ) → SlotRefines laws w (slot_at instances i) (shared_at sharing i) groups (histories i)

-- the logs, with the one of instance i replaced
abbrev pub with_log : (ℕ → Log) → ℕ → Log → ℕ → Log
with_log histories i h j = if nat_eq j i then h else histories j

-- the histories, with the one of instance i replaced
abbrev pub with_history : (ℕ → History) → ℕ → History → ℕ → History
with_history histories i h j = if nat_eq j i then h else histories j

-- logs of these histories and these calls
abbrev pub logs_of : (ℕ → History) → (ℕ → List Called) → ℕ → Log
logs_of histories calls i = record { history = histories i; calls = calls i }

-- each slot refines its history, whatever calls it got
abbrev pub HistoriesRefine : {M : Type 0} → Laws M → Option ℤ → List (Option (Member M)) → List Locations → List Group → (ℕ → History) → Type 0
HistoriesRefine laws w instances sharing groups histories = (calls : ℕ → List Called) × SlotsRefine laws w instances sharing groups (logs_of histories calls)
