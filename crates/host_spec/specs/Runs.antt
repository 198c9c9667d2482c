-- What an instance was given, gave and answered in a run of calls.
use Rattle.std.specs.Prelude.{ℕ, ℤ, ◌≡◌, ◌≢◌, List, [], ◌∷◌, ◌++◌, Ok, Some, fold, flat_map, All, nat_eq, if◌then◌else◌}
use Rattle.ialg.specs.History as history
use Rattle.ialg.specs.History.{History, Ctl, Sample, with_samples}
use Rattle.ialg.specs.Meaning.{Meaning, Status, outputs_of, status_of}
use Rattle.host_spec.specs.State.{Living, State}
use Rattle.host_spec.specs.Choices.{IsLawful}
use Rattle.host_spec.specs.Calls.{Call, Leads}
use Rattle.host_spec.specs.Calls.Call.{Control, Process, Delete}

-- all that an instance answers to the controls of a history
abbrev pub statuses_of : {M : Type 0} → Meaning M → M → List ℤ → History → List Status
statuses_of kinds kind p [] = []
statuses_of kinds kind p (Sample x ∷ h) = statuses_of kinds kind p h
statuses_of kinds kind p (history.Control c ∷ h) = statuses_of kinds kind p h ++ status_of kinds kind p h c ∷ []

module _ {M : Type 0} (i : ℕ) where
  -- the history of instance i with what the call gave it
  abbrev pub history_after : History → Call M → History
  history_after h (Control j c (Ok status)) = if nat_eq j i then history.Control c ∷ h else h
  history_after h (Process j block out) = if nat_eq j i then with_samples h block else h
  history_after h _ = h

  -- what instance i gave in the call, and what it answered
  abbrev pub output_in : Call M → List ℤ
  output_in (Process j block out) = if nat_eq j i then out else []
  output_in _ = []

  abbrev pub status_in : Call M → List Status
  status_in (Control j c (Ok status)) = if nat_eq j i then status ∷ [] else []
  status_in _ = []

  -- the call doesn't end it
  abbrev pub Spares : Call M → Type 0
  Spares (Delete j (Ok done)) = j ≢ i
  Spares _ = Unit {0}

  -- the same of a run of calls
  abbrev pub history_of_run : History → List (Call M) → History
  history_of_run h calls = fold history_after h calls

  abbrev pub outputs_in : List (Call M) → List ℤ
  outputs_in calls = flat_map output_in calls

  abbrev pub statuses_in : List (Call M) → List Status
  statuses_in calls = flat_map status_in calls

  abbrev pub AllSpare : List (Call M) → Type 0
  AllSpare calls = All Spares calls

-- the instance has grown from one history to another, and what it gave and answered is by its meaning
pub record Grows {M : Type 0} (kinds : Meaning M) (x : Living M) (h : History) (outputs : List ℤ) (statuses : List Status) : Type 0 where
  pub outputs_more : outputs_of kinds x.kind x.params h ≡ outputs_of kinds x.kind x.params x.history ++ outputs
  pub statuses_more : statuses_of kinds x.kind x.params h ≡ statuses_of kinds x.kind x.params x.history ++ statuses

-- a run from a state in which instance i lives, lawful, and isn't deleted
pub record Life {M : Type 0} (kinds : Meaning M) (i : ℕ) (x : Living M) (calls : List (Call M)) : Type 0 where
  pub before : State M
  pub after : State M
  pub born : before.living i ≡ Some x
  pub lawful : IsLawful kinds before.poison x
  pub spared : AllSpare i calls
  pub leads : Leads kinds before calls after
