-- Instances from their creation on.
use Rattle.std.proofs.Common.{◌≡◌, ℕ, ℤ, Bool, true, false, List, [], ◌∷◌, ◌++◌, Option, Some, None, Result, Ok, Err, refl, ap, sym, ◌∙◌, subst}
use Rattle.host_map.specs.Activity.{with_at}
use Rattle.std.proofs.lemmas.Bool.{eq-eqb, or_left}
use Rattle.std.specs.Prelude.{not, ◌&&◌, is_some, is_none, IsTrue, if◌then◌else◌}
use Rattle.mem_rec.specs.declared.MemRec.{MemRec}
use Rattle.mem_rec.specs.declared.Space.{Space}
use Rattle.ialg.specs.declared.refusal.Refusal.{Refusal}
use Rattle.ialg.specs.declared.refusal.Refusal.TheVariants.{Range, Taken, Missing, Command}
use Rattle.ialg.specs.Refusals.{first_refusal}
use Rattle.ialg.specs.History.{Ctl}
use Rattle.ialg.specs.Meaning.{Meaning, Status, status_of}
use Rattle.host_map.specs.MemoryMap.{MemoryMap}
use Rattle.host_map.specs.Creation.{created_map}
use Rattle.host_spec.specs.State.{Living, State, sharers_of, is_instance_number, is_group_number}
use Rattle.host_spec.specs.Steps.{Outcome, unless, newborn, with_room, with_memory, create_refusal, controlled}
use Rattle.host_spec.specs.Calls.{Call, Leads, Creates, Controls}
use Rattle.host_spec.specs.Calls.Call.{Create, Control}
use Rattle.host_spec.specs.Runs.{AllSpare, Life, Spares, history_of_run}
use Rattle.std.proofs.lemmas.List.Elements.{All-cons, All-head, All-nil, All-tail}
use Rattle.host_spec.proofs.CallLemmas.{host_stays}
use Rattle.host_spec.proofs.RunLemmas.{granted}
use Rattle.host_spec.proofs.LifeLemmas.{lives_on, grows_by}
use Rattle.console_spec.specs.Births.{Born, GivesItsEquation, GoesByItsHistory}
use Rattle.console_spec.specs.Told.{answer_of}

err_is_no_ok : {A E : Type 0} (r : E) (a : A) → ◌≡◌ {A = Result A E} (Err r) (Ok a) → ⊥
err_is_no_ok r a e = cc

-- what the calls of a list spare, its first ones spare
spared_first : {M : Type 0} (i : ℕ) (first rest : List (Call M)) → AllSpare i (first ++ rest) → AllSpare i first
spared_first i [] rest spared = All-nil (Spares i)
spared_first i (call ∷ first) rest spared =
    All-cons (Spares i) call first (All-head (Spares i) call (first ++ rest) spared) (spared_first i first rest (All-tail (Spares i) call (first ++ rest) spared))

module _ {M : Type 0} (kinds : Meaning M) where
  -- ---- runs in two parts

  -- the state between them, which keeps the poison word
  pub record Parts (before : State M) (first rest : List (Call M)) (after : State M) : Type 0 where
    pub between : State M
    pub leads : Leads kinds before first between
    pub leads_on : Leads kinds between rest after
    pub poison : between.poison ≡ before.poison

  parts : (first rest : List (Call M)) (before after : State M) → Leads kinds before (first ++ rest) after → Parts before first rest after
  parts [] rest before after leads = record { between = before; leads = refl; leads_on = leads; poison = refl }
  parts (call ∷ first) rest before after leads =
      let later = parts first rest leads.0 after leads.2 in
      record {
        between = later.between;
        leads = (leads.0, leads.1, later.leads);
        leads_on = later.leads_on;
        poison = later.poison ∙ (host_stays kinds before leads.0 call leads.1).poison;
      }

  -- ---- creation

  its : (living : ℕ → Option (Living M)) (i : ℕ) (x : Option (Living M)) → with_at living i x i ≡ x
  its living i x = ap (λ b. if b then x else living i) (eq-eqb i i refl)

  placed_lives : (before after : State M) (i : ℕ) (x : Living M) (done : Unit {0}) (table : List MemRec) (placed : Result MemoryMap Space)
      → (Ok done, after) ≡ with_room before i x table placed → after.living i ≡ Some x
  placed_lives before after i x done table (Err space) e = absurd (err_is_no_ok _ done (ap (λ o. o.0) (sym e)))
  placed_lives before after i x done table (Ok map) e = ap (λ o. o.1.living i) e ∙ its before.living i (Some x)

  -- it lives with the memory that its kind asked for
  pub record LivesWith (after : State M) (i : ℕ) (kind : M) (g : ℕ) (p : List ℤ) (table : Option (List MemRec)) : Type 0 where
    pub records : List MemRec
    pub asked : table ≡ Some records
    pub lives : after.living i ≡ Some (newborn kind g p records)

  module _ (before after : State M) (i : ℕ) (kind : M) (g : ℕ) (p : List ℤ) where
    created_lives : (done : Unit {0}) (table : Option (List MemRec)) → (Ok done, after) ≡ with_memory kinds before i kind g p table → LivesWith after i kind g p table
    created_lives done None e = absurd (err_is_no_ok _ done (ap (λ o. o.0) (sym e)))
    created_lives done (Some records) e =
        let x = newborn kind g p records in
        record {
          records = records;
          asked = refl;
          lives = placed_lives before after i x done records (created_map before.sizes before.map i g records (sharers_of kinds before.living x)) e;
        }

    born_lives : (does : Creates kinds before i kind g p (Ok tt) after) → LivesWith after i kind g p does.table
    born_lives does =
        created_lives tt does.table (granted before (create_refusal before i g) (with_memory kinds before i kind g p does.table) tt after does.outcome)

  -- the number of an instance that was created is in range
  granted_number : (number group taken : Bool) {A : Type 0} (before after : State M) (a : A) (outcome : Outcome (State M) A)
      → (Ok a, after) ≡ unless (first_refusal ((not (number && group), Range) ∷ (taken, Taken) ∷ [])) before outcome → number ≡ true
  granted_number true group taken before after a outcome e = refl
  granted_number false group taken before after a outcome e = absurd (err_is_no_ok Range a (ap (λ o. o.0) (sym e)))

  -- ---- controls

  answered : (before after : State M) (number none : Bool) (c : Ctl) (taken accepted : Bool) (status means : Status) (answer : Result Status Refusal) (next : State M)
      → number ≡ true → none ≡ false → taken ≡ accepted → status ≡ means
      → (answer, after) ≡ unless (first_refusal ((not number, Range) ∷ (none, Missing) ∷ (not taken, Command) ∷ [])) before (Ok status, next)
      → answer ≡ (if accepted then Ok means else Err Command)
  answered before after true false c true true status means answer next number none same told e = ap (λ o. o.0) e ∙ ap Ok told
  answered before after true false c false false status means answer next number none same told e = ap (λ o. o.0) e
  answered before after true false c true false status means answer next number none same told e = cc
  answered before after true false c false true status means answer next number none same told e = cc
  answered before after false none c taken accepted status means answer next number missing same told e = cc
  answered before after true true c taken accepted status means answer next number missing same told e = cc

  pub control_answered : (before after : State M) (i : ℕ) (c : Ctl) (answer : Result Status Refusal) (x : Living M) → is_instance_number i ≡ true
      → before.living i ≡ Some x → IsTrue (kinds.lawful x.kind x.params before.poison) → Controls kinds before i c answer after
      → answer ≡ answer_of kinds x.kind x.params x.history c
  control_answered before after i c answer x number there lawful does =
      let may = does.answers x there in
      answered before after (is_instance_number i) (is_none (before.living i)) c does.taken (kinds.accepts x.kind x.params c) does.status (status_of kinds x.kind x.params x.history c)
      answer (controlled before i (before.living i) c) number (ap is_none there) (may.acceptance lawful) (may.answer lawful) does.outcome

  -- ---- from the creation on

  module _ (before after : State M) (calls : List (Call M)) (i g : ℕ) (kind : M) (p : List ℤ) (later : List (Call M))
      (leads : Leads kinds before calls after) (lawful : IsTrue (kinds.lawful kind p before.poison)) (born : Born i kind g p calls later) where
    pub goes : GoesByItsHistory kinds i kind g p later born.rest after
    goes =
        let split = parts born.earlier (Create i kind g p (Ok tt) ∷ (later ++ born.rest)) before after (subst (λ cs. Leads kinds before cs after) born.created leads) in
        let start = split.between in
        let first = split.leads_on.0 in
        let does = split.leads_on.1 in
        let born_with = born_lives start first i kind g p does in
        let x = newborn kind g p born_with.records in
        let there = born_with.lives in
        let poison = (host_stays kinds start first (Create i kind g p (Ok tt)) does).poison ∙ split.poison in
        let still : IsTrue (kinds.lawful kind p first.poison) = subst (λ w. IsTrue (kinds.lawful kind p w)) (sym poison) lawful in
        let told = does.asked.told (or_left (kinds.lawful kind p start.poison) (kinds.declares kind p) (subst (λ w. IsTrue (kinds.lawful kind p w)) (sym split.poison) lawful)) in
        let number = granted_number (is_instance_number i) (is_group_number g) (is_some (start.living i)) start first tt _ does.outcome in
        let middle = parts later born.rest first after split.leads_on.2 in
        let life : Life kinds i x later = record { before = first; after = middle.between; born = there; lawful = still; spared = born.spared; leads = middle.leads } in
        let grows = grows_by kinds i x later life in
        let given : GivesItsEquation kinds i kind p later = record {
          outputs = sym grows.outputs_more;
          statuses = sym grows.statuses_more;
          controls = λ sooner rest c answer e.
              let two = parts sooner (Control i c answer ∷ rest) first middle.between (subst (λ cs. Leads kinds first cs middle.between) e middle.leads) in
              let sooner_life : Life kinds i x sooner = record {
                before = first;
                after = two.between;
                born = there;
                lawful = still;
                spared = spared_first i sooner (Control i c answer ∷ rest) (subst (AllSpare i) e born.spared);
                leads = two.leads;
              } in
              control_answered two.between two.leads_on.0 i c answer (record x { history = history_of_run i [] sooner }) number
              (lives_on kinds i x sooner sooner_life) (subst (λ w. IsTrue (kinds.lawful kind p w)) (sym two.poison) still) two.leads_on.1;
        } in
        record {
          gives = given;
          table = born_with.records;
          asked = sym told ∙ born_with.asked;
          lives = λ none. subst (λ (s : State M). s.living i ≡ Some (record x { history = history_of_run i [] later })) (sym (subst (λ cs. Leads kinds middle.between cs after) none middle.leads_on)) (lives_on kinds i x later life);
        }
