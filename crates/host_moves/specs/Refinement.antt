-- When the tables of instances and groups refine a state of the machine.
use Rattle.std.specs.Prelude.{◌≡◌, ℕ, List, [], Option, Some, None, Result, Ok, Err}
use Rattle.ialg.specs.History.{History}
use Rattle.ialg.specs.Meaning as meaning
use Rattle.ialg.specs.Views.{answer_of}
use Rattle.ialg.specs.Records.{unplaced}
use Rattle.ialg.specs.declared.control.Status.{Status}
use Rattle.ialg.specs.declared.refusal.Refusal.{Refusal}
use Rattle.ialg.specs.Laws.{Laws}
use Rattle.scratch_group.specs.declared.group.Group.{Group}
use Rattle.host_table.specs.declared.member.Member.{Member}
use Rattle.host_shared.specs.declared.locations.Locations.{Locations}
use Rattle.host_table.specs.Table.{slot_at, instance_of, activity_at}
use Rattle.host_table.specs.Refinement.{HistoriesRefine}
use Rattle.host_table.specs.View.{View}
use Rattle.host_map.specs.Activity.{Activity}
use Rattle.host_map.specs.declared.parts.Stat.{Stat}
use Rattle.host_spec.specs.State.{Living, State}

-- the member is this instance
pub record IsInstance {M : Type 0} (m : Member M) (x : Living M) : Type 0 where
  pub kind : (instance_of m.inst).kind ≡ x.kind
  pub params : (instance_of m.inst).params.items ≡ x.params
  -- without bases
  pub table : unplaced (instance_of m.inst).table ≡ x.table
  pub group : m.group ≡ x.group

-- what stands in the slot is what lives
abbrev pub IsLiving : {M : Type 0} → Option (Member M) → Option (Living M) → Type 0
IsLiving None None = Unit {0}
IsLiving None (Some x) = ⊥
IsLiving (Some m) None = ⊥
IsLiving (Some m) (Some x) = IsInstance m x

abbrev pub history_of : {M : Type 0} → Option (Living M) → History
history_of None = []
history_of (Some x) = x.history

-- the same instances, active members and counts, and each slot refines its history
pub record ListsRefine {M : Type 0} (laws : Laws M)
    (instances : List (Option (Member M))) (sharing : List Locations) (groups : List Group) (state : State M) : Type 0 where
  pub living : (i : ℕ) → IsLiving (slot_at instances i) (state.living i)
  pub activity : (g : ℕ) → activity_at groups g ≡ state.activity g
  pub histories : HistoriesRefine laws state.poison instances sharing groups (λ i. history_of (state.living i))

-- the same, of all that the tables hold
abbrev pub TablesRefine : {M : Type 0} → Laws M → View M → State M → Type 0
TablesRefine laws t state = ListsRefine laws t.instances t.sharing t.groups state

-- what a control is answered, as plain values
abbrev pub told : Result Status Refusal → Result meaning.Status Refusal
told (Ok status) = Ok (answer_of status)
told (Err refusal) = Err refusal

-- what is told of a group
abbrev pub activity_of : Stat → Activity
activity_of stat = record { active = stat.active; count = stat.activations }

abbrev pub stat_told : Result Stat Refusal → Result Activity Refusal
stat_told (Ok stat) = Ok (activity_of stat)
stat_told (Err refusal) = Err refusal
