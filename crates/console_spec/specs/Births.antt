-- An instance from its creation on: what it gives and answers in a run of calls of a host.
use Rattle.std.specs.Prelude.{ℕ, ℤ, ◌≡◌, List, [], ◌∷◌, ◌++◌, Some, Result, Ok, Err, if◌then◌else◌}
use Rattle.mem_rec.specs.declared.MemRec.{MemRec}
use Rattle.ialg.specs.declared.refusal.Refusal.{Refusal}
use Rattle.ialg.specs.declared.refusal.Refusal.TheVariants.{Command}
use Rattle.ialg.specs.History.{Ctl}
use Rattle.ialg.specs.Meaning.{Meaning, Status, outputs_of, status_of}
use Rattle.ialg.specs.Records.{unplaced}
use Rattle.host_spec.specs.State.{State}
use Rattle.host_spec.specs.Calls.{Call}
use Rattle.host_spec.specs.Calls.Call.{Create, Control}
use Rattle.host_spec.specs.Runs.{AllSpare, history_of_run, outputs_in, statuses_in, statuses_of}

-- instance i was created in these calls, and not deleted in the later ones, which came next; then came the rest
pub record Born {M : Type 0} (i : ℕ) (kind : M) (g : ℕ) (p : List ℤ) (calls later : List (Call M)) : Type 0 where
  pub earlier : List (Call M)
  pub rest : List (Call M)
  pub created : calls ≡ earlier ++ Create i kind g p (Ok tt) ∷ (later ++ rest)
  pub spared : AllSpare i later

-- in these calls, which come next behind its creation, an instance gives and answers what its kind means for what they give it. Whether a
-- control is granted depends on the kind, the parameters and the control alone
pub record GivesItsEquation {M : Type 0} (kinds : Meaning M) (i : ℕ) (kind : M) (p : List ℤ) (later : List (Call M)) : Type 0 where
  pub outputs : outputs_in i later ≡ outputs_of kinds kind p (history_of_run i [] later)
  pub statuses : statuses_in i later ≡ statuses_of kinds kind p (history_of_run i [] later)
  pub controls : (first rest : List (Call M)) (c : Ctl) (answer : Result Status Refusal) → later ≡ first ++ Control i c answer ∷ rest
      → answer ≡ (if kinds.accepts kind p c then Ok (status_of kinds kind p (history_of_run i [] first) c) else Err Command)

-- so it goes from its creation on, and where no further call came it lives, with all that it was given
pub record GoesByItsHistory {M : Type 0} (kinds : Meaning M) (i : ℕ) (kind : M) (g : ℕ) (p : List ℤ) (later rest : List (Call M)) (after : State M) : Type 0 where
  pub gives : GivesItsEquation kinds i kind p later
  pub table : List MemRec
  pub asked : kinds.table kind p ≡ Some table
  pub lives : rest ≡ [] → after.living i ≡ Some (record { kind = kind; params = p; table = unplaced table; group = g; history = history_of_run i [] later })
