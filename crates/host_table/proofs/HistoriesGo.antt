-- What a step of the logs makes of the histories.
use Rattle.std.proofs.Common.{◌≡◌, ◌&&◌, ℕ, ℤ, Bool, true, false, List, ◌∷◌, Option, Some, inl, inr, refl, ap, subst}
use Rattle.std.specs.Prelude.{nat_eq, nat_lt, if◌then◌else◌}
use Rattle.std.specs.Option.{option_eq}
use Rattle.std.proofs.lemmas.Bool.Decides.{eqb_tells}
use Rattle.ialg.specs.History.{Control, Ctl, History, with_samples}
use Rattle.ialg.specs.Log.{Called, Deactivate, Log, Moved, called, commanded, fed}
use Rattle.ialg.specs.Laws.{Laws}
use Rattle.host_shared.specs.Locations.{shared_at}
use Rattle.host_table.specs.Table.{slot_at, is_member_of}
use Rattle.host_table.specs.Refinement.{SlotRefines, logs_of, with_history, with_log}
use Rattle.host_table.specs.Steps.{AreKept, HistoriesAreKept, HistoriesStay, LogsGo, called_at, controlled, given, rested_if, told_below, turned}
use Rattle.host_table.specs.View.{View}
use Rattle.host_table.proofs.Histories.{given_called, given_turned}

-- logs with these histories
pub kept_by_logs : {M : Type 0} (laws : Laws M) (w : Option ℤ) (t : View M) (logs : ℕ → Log) (histories : ℕ → History) → ((i : ℕ) → (logs i).history ≡ histories i)
    → AreKept laws w t logs → HistoriesAreKept laws w t histories
kept_by_logs laws w t logs histories same kept =
    (λ i. (logs i).calls, λ i. subst (λ (h : History). SlotRefines laws w (slot_at t.instances i) (shared_at t.sharing i) t.groups (record { history = h; calls = (logs i).calls })) (same i) (kept i))

-- the histories go on as those of the logs do
pub histories_go : {M : Type 0} (laws : Laws M) (w : Option ℤ) (old new : View M) (goes : (ℕ → Log) → ℕ → Log) (step : (ℕ → History) → ℕ → History)
    → LogsGo laws w old new goes
    → ((histories : ℕ → History) (calls : ℕ → List Called) (i : ℕ) → (goes (logs_of histories calls) i).history ≡ step histories i)
    → (histories : ℕ → History) → HistoriesAreKept laws w old histories → HistoriesAreKept laws w new (step histories)
histories_go laws w old new goes step go same histories kept =
    kept_by_logs laws w new (goes (logs_of histories kept.0)) (step histories) (same histories kept.0) (go (logs_of histories kept.0) kept.1)

-- calls alone leave the histories
pub histories_stay : {M : Type 0} (laws : Laws M) (w : Option ℤ) (old new : View M) (goes : (ℕ → Log) → ℕ → Log)
    → LogsGo laws w old new goes
    → ((logs : ℕ → Log) (i : ℕ) → (goes logs i).history ≡ (logs i).history)
    → HistoriesStay laws w old new
histories_stay laws w old new goes go same histories kept =
    histories_go laws w old new goes (λ (hs : ℕ → History). hs) go (λ hs calls i. same (logs_of hs calls) i) histories kept

-- one log is replaced, and the others' histories stay
pub history_with_log : (logs : ℕ → Log) (histories : ℕ → History) (i : ℕ) (l : Log) (h : History) → l.history ≡ h → ((j : ℕ) → (logs j).history ≡ histories j)
    → (j : ℕ) → (with_log logs i l j).history ≡ with_history histories i h j
history_with_log logs histories i l h here there j =
    elim (eqb_tells j i) [
      | inl e ↦ rw e.0 here
      | inr e ↦ rw e.0 (there j)
    ]

-- a deactivation leaves the histories, and so does algMoved
rested_by : (b : Bool) (i : ℕ) (logs : ℕ → Log) (j : ℕ) → ((if b then called_at i Deactivate logs else logs) j).history ≡ (logs j).history
rested_by true i logs j = given_called i Deactivate logs j
rested_by false i logs j = refl

pub given_rested_if : (i : ℕ) (active : Option ℕ) (logs : ℕ → Log) (j : ℕ) → (rested_if i active logs j).history ≡ (logs j).history
given_rested_if i active logs j = rested_by (option_eq nat_eq active (Some i)) i logs j

pub told_by : (b : Bool) (l : Log) → (if b then called Moved l else l).history ≡ l.history
told_by true l = refl
told_by false l = refl

pub given_told : {M : Type 0} (g n : ℕ) (t : View M) (logs : ℕ → Log) (j : ℕ) → (told_below g n t logs j).history ≡ (logs j).history
given_told g n t logs j = told_by (is_member_of g (slot_at t.instances j) && nat_lt j n) (logs j)

-- an instance is activated and given samples, or a control: its history alone goes on
pub histories_given : {M : Type 0} (laws : Laws M) (w : Option ℤ) (old new : View M) (i : ℕ) (input : List ℤ) (active : Option ℕ)
    → LogsGo laws w old new (λ logs. given i input (turned i active logs))
    → (histories : ℕ → History) → HistoriesAreKept laws w old histories → HistoriesAreKept laws w new (with_history histories i (with_samples (histories i) input))
histories_given laws w old new i input active go =
    histories_go laws w old new (λ logs. given i input (turned i active logs)) (λ hs. with_history hs i (with_samples (hs i) input)) go
    (λ hs calls j.
    let logs = logs_of hs calls in
    history_with_log (turned i active logs) hs i (fed (turned i active logs i) input) (with_samples (hs i) input) (ap (λ (h : History). with_samples h input) (given_turned i active logs i))
    (λ k. given_turned i active logs k) j)

pub histories_controlled : {M : Type 0} (laws : Laws M) (w : Option ℤ) (old new : View M) (i : ℕ) (c : Ctl) (active : Option ℕ)
    → LogsGo laws w old new (λ logs. controlled i c (turned i active logs))
    → (histories : ℕ → History) → HistoriesAreKept laws w old histories → HistoriesAreKept laws w new (with_history histories i (Control c ∷ histories i))
histories_controlled laws w old new i c active go =
    histories_go laws w old new (λ logs. controlled i c (turned i active logs)) (λ hs. with_history hs i (Control c ∷ hs i)) go
    (λ hs calls j.
    let logs = logs_of hs calls in
    history_with_log (turned i active logs) hs i (commanded (turned i active logs i) c) (Control c ∷ hs i) (ap (λ (h : History). Control c ∷ h) (given_turned i active logs i))
    (λ k. given_turned i active logs k) j)
