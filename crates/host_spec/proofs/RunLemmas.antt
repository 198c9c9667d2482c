-- What an instance is given, gives and answers, call by call.
use Rattle.std.proofs.Common.{◌≡◌, ◌≢◌, ℕ, ℤ, Bool, true, false, cond, List, [], ◌∷◌, ◌++◌, Option, Some, None, Result, Ok, Err, refl, ap, sym, ◌∙◌, subst, append-nil}
use Rattle.std.specs.Prelude.{is_some, not, ◌&&◌}
use Rattle.std.proofs.lemmas.Bool.{eq-eqb}
use Rattle.std.proofs.lemmas.Bool.Decides.{eqb_tells}
use Rattle.std.proofs.lemmas.Option.{none-some, same_Some}
use Rattle.relocate.proofs.RangeTests.{either}
use Rattle.mem_rec.specs.declared.MemRec.{MemRec}
use Rattle.mem_rec.specs.declared.Space.{Space}
use Rattle.host_map.specs.MemoryMap.{MemoryMap}
use Rattle.host_map.specs.Creation.{created_map}
use Rattle.ialg.specs.declared.refusal.Refusal.{Refusal}
use Rattle.ialg.specs.declared.refusal.Refusal.TheVariants.{Range, Taken}
use Rattle.ialg.specs.Refusals.{first_refusal}
use Rattle.ialg.specs.History as history
use Rattle.ialg.specs.History.{History, Ctl, Sample, with_samples}
use Rattle.ialg.specs.Meaning.{Meaning, Status, outputs_of, status_of}
use Rattle.host_map.specs.Activity.{with_at}
use Rattle.host_spec.specs.State.{Living, State, sharers_of, is_instance_number, is_group_number}
use Rattle.host_spec.specs.Choices.{IsLawful, MayGive}
use Rattle.host_spec.specs.Steps.{Outcome, unless, newborn, create_refusal, with_room, with_memory, control_refusal, controlled, given, instance_refusal, group_refusal, without_instance}
use Rattle.host_spec.specs.Calls.{Call, Does, Creates, Controls, Processes, refusal_of}
use Rattle.host_spec.specs.Calls.Call.{Create, Control, Process, Delete, Release, Step, Compact, Stat, Map, Lives, Copied}
use Rattle.host_spec.specs.Runs.{statuses_of, history_after, output_in, status_in, Spares, Grows}
use Rattle.host_spec.proofs.CallLemmas.{Keeps, KeepsAll, keeps_but}

ok_is_no_err : {A E : Type 0} (a : A) (r : E) (result : Result A E) → result ≡ Ok a → result ≡ Err r → ⊥
ok_is_no_err a r result ok err = cc

-- a granted call is no refused one
pub granted : {M A : Type 0} (before : State M) (r : Option Refusal) (outcome : Outcome (State M) A) (a : A) (after : State M)
    → (Ok a, after) ≡ unless r before outcome → (Ok a, after) ≡ outcome
granted before None outcome a after e = e
granted before (Some refusal) outcome a after e = absurd (ok_is_no_err a refusal (Ok a) refl (ap (λ o. o.0) e))

-- a call that answers a refusal, and would have answered something else, leaves the state
pub refused : {M A : Type 0} (before : State M) (r : Option Refusal) (a : A) (next : State M) (refusal : Refusal) (after : State M)
    → (Err refusal, after) ≡ unless r before (Ok a, next) → after ≡ before
refused before None a next refusal after e = absurd (ok_is_no_err a refusal (Ok a) refl (sym (ap (λ o. o.0) e)))
refused before (Some other) a next refusal after e = ap (λ o. o.1) e

-- what goes before it was refused, or it was refused and left the state itself
refused_as : {M A : Type 0} (before : State M) (r : Option Refusal) (outcome : Outcome (State M) A) (refusal : Refusal) (after : State M)
    → ((e : Refusal) → outcome.0 ≡ Err e → outcome.1 ≡ before) → (Err refusal, after) ≡ unless r before outcome → after ≡ before
refused_as before None outcome refusal after stays e = ap (λ o. o.1) e ∙ stays refusal (sym (ap (λ o. o.0) e))
refused_as before (Some other) outcome refusal after stays e = ap (λ o. o.1) e

-- a creation that finds no room, or whose parameters are refused, leaves the state
room_stays : {M : Type 0} (before : State M) (i : ℕ) (x : Living M) (table : List MemRec) (placed : Result MemoryMap Space) (e : Refusal)
    → (with_room before i x table placed).0 ≡ Err e → (with_room before i x table placed).1 ≡ before
room_stays before i x table (Ok map) e is = absurd (ok_is_no_err {A = Unit {0}} tt e (Ok tt) refl is)
room_stays before i x table (Err space) e is = refl

memory_stays : {M : Type 0} (kinds : Meaning M) (before : State M) (i : ℕ) (kind : M) (g : ℕ) (p : List ℤ) (table : Option (List MemRec)) (e : Refusal)
    → (with_memory kinds before i kind g p table).0 ≡ Err e → (with_memory kinds before i kind g p table).1 ≡ before
memory_stays kinds before i kind g p None e is = refl
memory_stays kinds before i kind g p (Some table) e is =
    let x = newborn kind g p table in
    room_stays before i x table (created_map before.sizes before.map i g table (sharers_of kinds before.living x)) e is

-- a refused call leaves the state
pub refused_call : {M : Type 0} (kinds : Meaning M) (before after : State M) (call : Call M) (refusal : Refusal) → Does kinds before call after → refusal_of call ≡ Some refusal → after ≡ before
refused_call kinds before after (Create i kind g p (Ok done)) refusal does is = absurd (none-some refusal is)
refused_call kinds before after (Create i kind g p (Err e)) refusal does is =
    refused_as before (create_refusal before i g) (with_memory kinds before i kind g p does.table) e after (memory_stays kinds before i kind g p does.table) does.outcome
refused_call kinds before after (Control i c (Ok status)) refusal does is = absurd (none-some refusal is)
refused_call kinds before after (Control i c (Err e)) refusal does is = refused before (control_refusal before i does.taken) does.status _ e after does.outcome
refused_call kinds before after (Process i block out) refusal does is = absurd (none-some refusal is)
refused_call kinds before after (Delete i (Ok done)) refusal does is = absurd (none-some refusal is)
refused_call kinds before after (Delete i (Err e)) refusal does is = refused before (instance_refusal before i) tt (without_instance kinds before i (before.living i)) e after does
refused_call kinds before after (Release g (Ok was)) refusal does is = absurd (none-some refusal is)
refused_call kinds before after (Release g (Err e)) refusal does is = refused before (group_refusal before g) (is_some (before.activity g).active) _ e after does
refused_call kinds before after (Step space moved) refusal does is = absurd (none-some refusal is)
refused_call kinds before after (Compact space count) refusal does is = absurd (none-some refusal is)
refused_call kinds before after (Stat g (Ok activity)) refusal does is = absurd (none-some refusal is)
refused_call kinds before after (Stat g (Err e)) refusal does is = refused before (group_refusal before g) (before.activity g) before e after does
refused_call kinds before after (Map space blocks) refusal does is = absurd (none-some refusal is)
refused_call kinds before after (Lives i lives) refusal does is = absurd (none-some refusal is)
refused_call kinds before after (Copied copied) refusal does is = absurd (none-some refusal is)

statuses_of_samples : {M : Type 0} (kinds : Meaning M) (kind : M) (p : List ℤ) (h : History) (block : List ℤ)
    → statuses_of kinds kind p (with_samples h block) ≡ statuses_of kinds kind p h
statuses_of_samples kinds kind p h [] = refl
statuses_of_samples kinds kind p h (x ∷ xs) = statuses_of_samples kinds kind p (Sample x ∷ h) xs

-- a number that is taken is refused before the memory is asked for
taken_stays : {M A : Type 0} (range taken : Bool) (before : State M) (outcome : Outcome (State M) A) → taken ≡ true
    → (unless (first_refusal ((range, Range) ∷ (taken, Taken) ∷ [])) before outcome).1 ≡ before
taken_stays true taken before outcome e = refl
taken_stays false true before outcome e = refl
taken_stays false false before outcome e = cc

its : {M : Type 0} (living : ℕ → Option (Living M)) (i : ℕ) (x : Option (Living M)) → with_at living i x i ≡ x
its living i x = ap (λ b. cond b x (living i)) (eq-eqb i i refl)

-- a test that finds nothing
pub none_there : {A : Type 0} (o : Option A) → is_some o ≡ false → o ≡ None
none_there None e = refl
none_there (Some a) e = cc

pub ok_same : {A E : Type 0} (a b : A) → ◌≡◌ {A = Result A E} (Ok a) (Ok b) → a ≡ b
ok_same a b e = cc

-- the instance lives on with this history, and grew by its meaning
pub record Grown {M : Type 0} (kinds : Meaning M) (i : ℕ) (x : Living M) (after : State M) (h : History) (out : List ℤ) (statuses : List Status) : Type 0 where
  pub lives : after.living i ≡ Some (record x { history = h })
  pub grows : Grows kinds x h out statuses

module _ {M : Type 0} (kinds : Meaning M) (i : ℕ) (x : Living M) where
  -- an instance that was given nothing
  pub stays : (after : State M) → after.living i ≡ Some x → Grown kinds i x after x.history [] []
  stays after e = record {
    lives = e;
    grows = record { outputs_more = sym (append-nil (outputs_of kinds x.kind x.params x.history)); statuses_more = sym (append-nil (statuses_of kinds x.kind x.params x.history)) };
  }

  module _ (before after : State M) (there : before.living i ≡ Some x) where
    abbrev GrownBy : Call M → Type 0
    GrownBy call = Grown kinds i x after (history_after i x.history call) (output_in i call) (status_in i call)

    -- the call was about another instance
    by_another : (j : ℕ) → Keeps j before after → i ≢ j → Grown kinds i x after x.history [] []
    by_another j keeps apart = stays after (keeps.others i apart ∙ there)

    -- or it was refused, or about none
    by_none : KeepsAll before after → Grown kinds i x after x.history [] []
    by_none keeps = stays after (ap (λ living. living i) keeps.living ∙ there)

    by_refused : after ≡ before → Grown kinds i x after x.history [] []
    by_refused e = stays after (ap (λ state. state.living i) e ∙ there)

    -- ---- creation

    by_create : (j : ℕ) (kind : M) (g : ℕ) (p : List ℤ) (answer : Result (Unit {0}) Refusal) → Creates kinds before j kind g p answer after
        → Grown kinds i x after x.history [] []
    by_create j kind g p answer does =
        either (eqb_tells j i)
        (λ same.
        let taken : is_some (before.living j) ≡ true = ap (λ k. is_some (before.living k)) same.1 ∙ ap is_some there in
        by_refused (ap (λ o. o.1) does.outcome
        ∙ taken_stays (not (is_instance_number j && is_group_number g)) (is_some (before.living j)) before (with_memory kinds before j kind g p does.table) taken))
        (λ apart. by_another j (keeps_but kinds before after (Create j kind g p answer) does) (λ e. apart.1 (sym e)))

    -- ---- controls

    module _ (lawful : IsLawful kinds before.poison x) where
      its_control : (c : Ctl) (s : Status) → Controls kinds before i c (Ok s) after
          → Grown kinds i x after (history.Control c ∷ x.history) [] (s ∷ [])
      its_control c s does =
          let done : (Ok s, after) ≡ (Ok does.status, controlled before i (before.living i) c) =
          granted before (control_refusal before i does.taken) _ s after does.outcome in
          let next : after ≡ controlled before i (Some x) c = ap (λ o. o.1) done ∙ ap (λ y. controlled before i y c) there in
          let status : s ≡ does.status = ok_same s does.status (ap (λ o. o.0) done) in
          let means : s ≡ status_of kinds x.kind x.params x.history c = status ∙ (does.answers x there).answer lawful in
          record {
            lives = ap (λ state. state.living i) next ∙ its before.living i (Some (record x { history = history.Control c ∷ x.history }));
            grows = record {
              outputs_more = sym (append-nil (outputs_of kinds x.kind x.params x.history));
              statuses_more = ap (λ t. statuses_of kinds x.kind x.params x.history ++ t ∷ []) (sym means);
            };
          }

      by_control : (j : ℕ) (c : Ctl) (s : Status) → Controls kinds before j c (Ok s) after → GrownBy (Control j c (Ok s))
      by_control j c s does =
          either (eqb_tells j i)
          (λ same. subst (λ b. Grown kinds i x after (cond b (history.Control c ∷ x.history) x.history) [] (cond b (s ∷ []) [])) (sym same.0)
          (its_control c s (subst (λ k. Controls kinds before k c (Ok s) after) same.1 does)))
          (λ apart. subst (λ b. Grown kinds i x after (cond b (history.Control c ∷ x.history) x.history) [] (cond b (s ∷ []) [])) (sym apart.0)
          (by_another j (keeps_but kinds before after (Control j c (Ok s)) does) (λ e. apart.1 (sym e))))

      -- ---- samples

      its_block : (block out : List ℤ) → Processes kinds before i block out after
          → Grown kinds i x after (with_samples x.history block) out []
      its_block block out does =
          let same : does.instance ≡ x = same_Some does.instance x (sym does.there ∙ there) in
          let next : after ≡ given before i (Some x) block = does.outcome ∙ ap (λ y. given before i y block) there in
          let gives : MayGive kinds before.poison x block out = subst (λ y. MayGive kinds before.poison y block out) same does.gives in
          record {
            lives = ap (λ state. state.living i) next ∙ its_given block;
            grows = record {
              outputs_more = gives.lawful lawful;
              statuses_more = statuses_of_samples kinds x.kind x.params x.history block ∙ sym (append-nil (statuses_of kinds x.kind x.params x.history));
            };
          }
        where
          its_given : (block : List ℤ) → (given before i (Some x) block).living i ≡ Some (record x { history = with_samples x.history block })
          its_given [] = there
          its_given (s ∷ block) = its before.living i (Some (record x { history = with_samples x.history (s ∷ block) }))

      by_process : (j : ℕ) (block out : List ℤ) → Processes kinds before j block out after → GrownBy (Process j block out)
      by_process j block out does =
          either (eqb_tells j i)
          (λ same. subst (λ b. Grown kinds i x after (cond b (with_samples x.history block) x.history) (cond b out []) []) (sym same.0)
          (its_block block out (subst (λ k. Processes kinds before k block out after) same.1 does)))
          (λ apart. subst (λ b. Grown kinds i x after (cond b (with_samples x.history block) x.history) (cond b out []) []) (sym apart.0)
          (by_another j (keeps_but kinds before after (Process j block out) does) (λ e. apart.1 (sym e))))

      -- ---- any call

      pub grown_by : (call : Call M) → Does kinds before call after → Spares i call → GrownBy call
      grown_by (Create j kind g p answer) does spared = by_create j kind g p answer does
      grown_by (Control j c (Ok s)) does spared = by_control j c s does
      grown_by (Control j c (Err r)) does spared =
          by_refused (refused before (control_refusal before j does.taken) does.status (controlled before j (before.living j) c) r after does.outcome)
      grown_by (Process j block out) does spared = by_process j block out does
      grown_by (Delete j (Ok done)) does spared = by_another j (keeps_but kinds before after (Delete j (Ok done)) does) (λ e. spared (sym e))
      grown_by (Delete j (Err r)) does spared =
          by_refused (refused before (instance_refusal before j) tt (without_instance kinds before j (before.living j)) r after does)
      grown_by (Release g answer) does spared = by_none (keeps_but kinds before after (Release g answer) does)
      grown_by (Step space answer) does spared = by_none (keeps_but kinds before after (Step space answer) does)
      grown_by (Compact space answer) does spared = by_none (keeps_but kinds before after (Compact space answer) does)
      grown_by (Stat g answer) does spared = by_none (keeps_but kinds before after (Stat g answer) does)
      grown_by (Map space answer) does spared = by_none (keeps_but kinds before after (Map space answer) does)
      grown_by (Lives j answer) does spared = by_none (keeps_but kinds before after (Lives j answer) does)
      grown_by (Copied answer) does spared = by_none (keeps_but kinds before after (Copied answer) does)
