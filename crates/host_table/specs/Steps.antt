-- What a call of the tables does.
use Rattle.std.specs.Prelude.{ℕ, ℤ, ◌≡◌, ◌++◌, ◌∷◌, ◌&&◌, Bool, List, [], Option, Some, None, IsSome, nat_eq, nat_lt, if◌then◌else◌}
use Rattle.std.specs.Option.{option_eq}
use Rattle.ialg.specs.Meaning.{Status}
use Rattle.ialg.specs.History.{History, Ctl, with_samples}
use Rattle.ialg.specs.Log.{Log, Called, called, fed, commanded, Activate, Deactivate, Moved}
use Rattle.ialg.specs.Laws.{Laws}
use Rattle.lifecycle.specs.States.{IsLawful, all_outputs, status_after}
use Rattle.host_table.specs.declared.member.Member.{Member}
use Rattle.host_table.specs.Table.{slot_at, group_of, instance_of, is_member_of, activity_at, activated_by, deactivated_by, deactivated_in, TablesOk, TablesTold, ArePoisoned, ActivitiesAre}
use Rattle.host_map.specs.Activity.{Activity}
use Rattle.host_table.specs.Refinement.{HistoriesRefine, SlotsRefine, with_log}
use Rattle.host_table.specs.Frames.{SameMembers, SameTables}
use Rattle.host_table.specs.View.{View}

-- what holds of the tables between two calls
abbrev pub AreConsistent : {M : Type 0} → View M → Type 0
AreConsistent t = TablesOk t.instances t.sharing t.groups

-- what holds of the tables between two calls, in a host of this poison word or of none
pub record Ready {M : Type 0} (w : Option ℤ) (t : View M) : Type 0 where
  pub ok : TablesOk t.instances t.sharing t.groups
  pub poisoned : ArePoisoned w t.groups

-- each instance keeps its log
abbrev pub AreKept : {M : Type 0} → Laws M → Option ℤ → View M → (ℕ → Log) → Type 0
AreKept laws w t histories = SlotsRefine laws w t.instances t.sharing t.groups histories

-- each instance's log went on so, in a host of this poison word or of none
abbrev pub LogsGo : {M : Type 0} → Laws M → Option ℤ → View M → View M → ((ℕ → Log) → ℕ → Log) → Type 0
LogsGo laws w old new goes = (histories : ℕ → Log) → AreKept laws w old histories → AreKept laws w new (goes histories)

-- each instance's log went on so, in a host of any poison word, or of none
abbrev pub AllLogsGo : {M : Type 0} → Laws M → View M → View M → ((ℕ → Log) → ℕ → Log) → Type 0
AllLogsGo laws old new goes = (w : Option ℤ) → LogsGo laws w old new goes

-- each instance keeps its history, whatever calls it got
abbrev pub HistoriesAreKept : {M : Type 0} → Laws M → Option ℤ → View M → (ℕ → History) → Type 0
HistoriesAreKept laws w t histories = HistoriesRefine laws w t.instances t.sharing t.groups histories

-- each instance keeps the history that it kept, in a host of this poison word or of none
abbrev pub HistoriesStay : {M : Type 0} → Laws M → Option ℤ → View M → View M → Type 0
HistoriesStay laws w old new = (histories : ℕ → History) → HistoriesAreKept laws w old histories → HistoriesAreKept laws w new histories

-- the same, in a host of any poison word or of none
abbrev pub AllHistoriesStay : {M : Type 0} → Laws M → View M → View M → Type 0
AllHistoriesStay laws old new = (w : Option ℤ) → HistoriesStay laws w old new

-- the same instances and blocks, all at the same places
pub record Stays {M : Type 0} (w : Option ℤ) (old new : View M) : Type 0 where
  pub ok : TablesOk new.instances new.sharing new.groups
  pub poisoned : ArePoisoned w new.groups
  pub same : SameTables old.instances old.sharing old.groups new.instances new.sharing new.groups

-- the same instances and blocks, all at the same places, that may go by other bases
abbrev pub MembersStay : {M : Type 0} → View M → View M → Type 0
MembersStay old new = SameMembers old.instances old.sharing old.groups new.instances new.sharing new.groups

-- as TablesTold says, of all that the tables hold
abbrev pub MembersAreTold : {M : Type 0} → ℕ → ℕ → View M → Type 0
MembersAreTold g n t = TablesTold g n t.instances t.sharing t.groups

-- instance i was deactivated, where it was active, and but for that each group has the activity that it had
abbrev pub WasDeactivated : {M : Type 0} → ℕ → View M → View M → Type 0
WasDeactivated i old new = ActivitiesAre new.groups (deactivated_by old.instances old.groups i)

-- the same instances and blocks, all at the same places, and the groups have these activities, and each instance's log went on so
pub record Steps {M : Type 0} (laws : Laws M) (w : Option ℤ) (old new : View M) (activities : ℕ → Activity) (goes : (ℕ → Log) → ℕ → Log) : Type 0 where
  pub ok : TablesOk new.instances new.sharing new.groups
  pub poisoned : ArePoisoned w new.groups
  pub same : SameTables old.instances old.sharing old.groups new.instances new.sharing new.groups
  pub activity : (k : ℕ) → activity_at new.groups k ≡ activities k
  pub keeps : (histories : ℕ → Log) → AreKept laws w old histories → AreKept laws w new (goes histories)

-- no log went on
abbrev pub unchanged : (ℕ → Log) → ℕ → Log
unchanged histories = histories

-- instance i was given samples
abbrev pub given : ℕ → List ℤ → (ℕ → Log) → ℕ → Log
given i input histories = with_log histories i (fed (histories i) input)

-- instance i was given a control
abbrev pub controlled : ℕ → Ctl → (ℕ → Log) → ℕ → Log
controlled i c histories = with_log histories i (commanded (histories i) c)

-- one more call, to instance i
abbrev pub called_at : ℕ → Called → (ℕ → Log) → ℕ → Log
called_at i call histories = with_log histories i (called call (histories i))

-- the active member is deactivated, if there is one
abbrev pub rested : Option ℕ → (ℕ → Log) → ℕ → Log
rested None histories = histories
rested (Some j) histories = called_at j Deactivate histories

-- instance i is deactivated, where it is the active member
abbrev pub rested_if : ℕ → Option ℕ → (ℕ → Log) → ℕ → Log
rested_if i active histories = if option_eq nat_eq active (Some i) then called_at i Deactivate histories else histories

-- instance i is activated unless it is the active member, and the active member is deactivated before, if there is one
abbrev pub turned : ℕ → Option ℕ → (ℕ → Log) → ℕ → Log
turned i active histories = if option_eq nat_eq active (Some i) then histories else called_at i Activate (rested active histories)

-- instance i is told of a move, where it is a member of the group
abbrev pub told_at : {M : Type 0} → ℕ → ℕ → View M → (ℕ → Log) → ℕ → Log
told_at g i t histories = if is_member_of g (slot_at t.instances i) then called_at i Moved histories else histories

-- each member of the group below n is told, once
abbrev pub told_below : {M : Type 0} → ℕ → ℕ → View M → (ℕ → Log) → ℕ → Log
told_below g n t histories j = if is_member_of g (slot_at t.instances j) && nat_lt j n then called Moved (histories j) else histories j

-- the active member of the group of instance i
abbrev pub active_beside : {M : Type 0} → View M → ℕ → Option ℕ
active_beside t i = (activity_at t.groups (group_of (slot_at t.instances i))).active

-- what a lawful instance gives out for samples
abbrev pub GivesOut : {M : Type 0} → Laws M → Option ℤ → View M → ℕ → List ℤ → List ℤ → Type 0
GivesOut {M = M} laws w t i input out = (histories : ℕ → Log) → AreKept laws w t histories
    → (m : Member M) → slot_at t.instances i ≡ Some m → IsLawful laws.meaning (instance_of m.inst) w
    → all_outputs laws.meaning (instance_of m.inst) (with_samples (histories i).history input)
    ≡ all_outputs laws.meaning (instance_of m.inst) (histories i).history ++ out

-- what a lawful instance answers to a control
abbrev pub AnswersTo : {M : Type 0} → Laws M → Option ℤ → View M → ℕ → Ctl → Status → Type 0
AnswersTo {M = M} laws w t i c answer = (histories : ℕ → Log) (m : Member M) → slot_at t.instances i ≡ Some m
    → IsLawful laws.meaning (instance_of m.inst) w → AreKept laws w t histories
    → answer ≡ status_after laws.meaning (instance_of m.inst) (histories i).history c

-- instance i was activated, unless it was active, and another active member of its group was deactivated
abbrev pub Activates : {M : Type 0} → Laws M → Option ℤ → ℕ → View M → View M → Type 0
Activates laws w i old new = Steps laws w old new (activated_by old.instances old.groups i) (turned i (active_beside old i))

-- instance i was deactivated, where it was active
abbrev pub Deactivates : {M : Type 0} → Laws M → Option ℤ → ℕ → View M → View M → Type 0
Deactivates laws w i old new = Steps laws w old new (deactivated_by old.instances old.groups i) (rested_if i (active_beside old i))

-- the active member of group g was deactivated, where it has one
abbrev pub DeactivatesIn : {M : Type 0} → Laws M → Option ℤ → ℕ → View M → View M → Type 0
DeactivatesIn laws w g old new = Steps laws w old new (deactivated_in old.groups g) (rested (activity_at old.groups g).active)

-- instance i was activated, as Activates says, and given samples
abbrev pub ActivatesAndFeeds : {M : Type 0} → Laws M → Option ℤ → ℕ → List ℤ → View M → View M → Type 0
ActivatesAndFeeds laws w i samples old new = Steps laws w old new (activated_by old.instances old.groups i)
    (λ histories. given i samples (turned i (active_beside old i) histories))

-- what instance i gives for a sample was told by reading alone: it lives, and the tables are as they are once it was given the sample
pub record TellsOutput {M : Type 0} (laws : Laws M) (t : View M) (i : ℕ) (x told : ℤ) : Type 0 where
  pub living : IsSome (slot_at t.instances i)
  pub step : (w : Option ℤ) → Ready w t → ActivatesAndFeeds laws w i (x ∷ []) t t
  pub output : (w : Option ℤ) → GivesOut laws w t i (x ∷ []) (told ∷ [])

-- instance i was activated, as Activates says, and given a control
abbrev pub ActivatesAndControls : {M : Type 0} → Laws M → Option ℤ → ℕ → Ctl → View M → View M → Type 0
ActivatesAndControls laws w i c old new = Steps laws w old new (activated_by old.instances old.groups i)
    (λ histories. controlled i c (turned i (active_beside old i) histories))

-- whatever the histories are, each instance keeps its own: so it is where no instance lives
abbrev pub KeepsAnyHistories : {M : Type 0} → Laws M → View M → Type 0
KeepsAnyHistories laws t = (w : Option ℤ) (histories : ℕ → Log) → AreKept laws w t histories

-- the answer is whether the instance, where it is lawful, takes the control
abbrev pub SaysWhetherTaken : {M : Type 0} → Laws M → Option ℤ → View M → ℕ → Ctl → Bool → Type 0
SaysWhetherTaken {M = M} laws w t i c answer = (m : Member M) → slot_at t.instances i ≡ Some m → IsLawful laws.meaning (instance_of m.inst) w
    → answer ≡ laws.meaning.accepts (instance_of m.inst).kind (instance_of m.inst).params.items c
