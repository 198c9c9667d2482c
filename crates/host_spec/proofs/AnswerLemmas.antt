-- A lawful kind leaves nothing free.
use Rattle.std.proofs.Common.{◌≡◌, ℕ, ℤ, Bool, true, false, List, [], ◌∷◌, ◌++◌, length, drop, Option, Some, None, refl, ap, sym, ◌∙◌, subst}
use Rattle.std.proofs.Math.Seq.{drop-append_seam}
use Rattle.std.proofs.lemmas.Bool.{or_left}
use Rattle.std.specs.Prelude.{not, is_some, is_none, IfSome}
use Rattle.host_map.specs.MemoryMap.{blocks_in}
use Rattle.ialg.specs.declared.refusal.Refusal.TheVariants.{Range, Missing, Command}
use Rattle.ialg.specs.Refusals.{first_refusal}
use Rattle.ialg.specs.History.{Ctl, with_samples, block_output}
use Rattle.ialg.specs.Meaning.{Meaning, Status, outputs_of}
use Rattle.host_spec.specs.State.{Living, State, is_instance_number}
use Rattle.host_spec.specs.Choices.{IsLawful, MayAnswer, MayGive}
use Rattle.host_spec.specs.Steps.{Outcome, unless, create, control, processed, delete, release, step, compact, stat}
use Rattle.host_spec.specs.Calls.{Call, Does, Leads}
use Rattle.host_spec.specs.Calls.Call.{Create, Control, Process, Delete, Release, Step, Compact, Stat, Map, Lives, Copied}
use Rattle.host_spec.specs.Answers.{accepted, status_at, output_at, answered, all_answered, IsLawfulCall, AreLawful}
use Rattle.host_spec.proofs.CallLemmas.{host_stays}

-- a call with its answer, and the state after it
abbrev Told : {M A : Type 0} → (A → Call M) → A → State M → A → State M → Type 0
Told {M = M} call answer after value next = ◌≡◌ {A = Call M × State M} (call answer, after) (call value, next)

told : {M A : Type 0} (call : A → Call M) (answer value : A) (after next : State M) → answer ≡ value → after ≡ next → Told call answer after value next
told call answer value after next e f = subst (λ v. Told call answer after v next) e (subst (λ s. Told call answer after answer s) f refl)

with_answer : {M A : Type 0} (call : A → Call M) (answer : A) (after : State M) (outcome : A × State M) → (answer, after) ≡ outcome
    → Told call answer after outcome.0 outcome.1
with_answer call answer after outcome e = told call answer outcome.0 after outcome.1 (ap (λ o. o.0) e) (ap (λ o. o.1) e)

-- where the instance is missing, it doesn't matter what it would answer
missing : {M A : Type 0} (before : State M) (range none b c : Bool) (granted other : Outcome (State M) A) → none ≡ true
    → unless (first_refusal ((range, Range) ∷ (none, Missing) ∷ (b, Command) ∷ [])) before granted
    ≡ unless (first_refusal ((range, Range) ∷ (none, Missing) ∷ (c, Command) ∷ [])) before other
missing before true none b c granted other e = refl
missing before false true b c granted other e = refl
missing before false false b c granted other e = cc

block_output_is : {M : Type 0} (kinds : Meaning M) (x : Living M) (block out : List ℤ)
    → outputs_of kinds x.kind x.params (with_samples x.history block) ≡ outputs_of kinds x.kind x.params x.history ++ out
    → out ≡ block_output (kinds.gives x.kind x.params) x.history block
block_output_is kinds x block out e =
    let old = outputs_of kinds x.kind x.params x.history in
    sym (ap (λ all. drop (length old) all) e ∙ drop-append_seam old out)

module _ {M : Type 0} (kinds : Meaning M) (before after : State M) where
  control_answered : (i : ℕ) (c : Ctl) (taken : Bool) (status : Status) (y : Option (Living M)) → before.living i ≡ y
      → ((x : Living M) → before.living i ≡ Some x → MayAnswer kinds before.poison x c taken status)
      → IfSome y (IsLawful kinds before.poison)
      → control before i c taken status ≡ control before i c (accepted kinds y c) (status_at kinds y c)
  control_answered i c taken status None there answers lawful =
      missing before (not (is_instance_number i)) (is_none (before.living i)) (not taken) true _ _ (ap is_none there)
  control_answered i c taken status (Some x) there answers lawful =
      let may = answers x there in
      ap (λ b. control before i c b status) (may.acceptance lawful) ∙ ap (λ s. control before i c (kinds.accepts x.kind x.params c) s) (may.answer lawful)

  output_answered : (i : ℕ) (block out : List ℤ) (x : Living M) (y : Option (Living M)) → y ≡ Some x → MayGive kinds before.poison x block out
      → IfSome y (IsLawful kinds before.poison) → out ≡ output_at kinds y block
  output_answered i block out x y there gives lawful =
      let its : IsLawful kinds before.poison x = subst (λ z. IfSome z (IsLawful kinds before.poison)) there lawful in
      block_output_is kinds x block out (gives.lawful its) ∙ ap (λ z. output_at kinds z block) (sym there)

  pub computed : (call : Call M) → Does kinds before call after → IsLawfulCall kinds before call → (call, after) ≡ answered kinds before call
  computed (Create i kind g p answer) does lawful =
      with_answer (λ a. Create i kind g p a) answer after (create kinds before i kind g p (kinds.table kind p))
      (does.outcome ∙ ap (λ t. create kinds before i kind g p t) (does.asked.told (or_left (kinds.lawful kind p before.poison) (kinds.declares kind p) lawful)))
  computed (Control i c answer) does lawful =
      with_answer (λ a. Control i c a) answer after (control before i c (accepted kinds (before.living i) c) (status_at kinds (before.living i) c))
      (does.outcome ∙ control_answered i c does.taken does.status (before.living i) refl does.answers lawful)
  computed (Process i block out) does lawful =
      told (λ o. Process i block o) out (output_at kinds (before.living i) block) after (processed before i block)
      (output_answered i block out does.instance (before.living i) does.there does.gives lawful) does.outcome
  computed (Delete i answer) does lawful = with_answer (λ a. Delete i a) answer after (delete kinds before i) does
  computed (Release g answer) does lawful = with_answer (λ a. Release g a) answer after (release before g) does
  computed (Step space answer) does lawful = with_answer (λ a. Step space a) answer after (step before space) does
  computed (Compact space answer) does lawful = with_answer (λ a. Compact space a) answer after (compact before space) does
  computed (Stat g answer) does lawful = with_answer (λ a. Stat g a) answer after (stat before g) does
  computed (Map space answer) does lawful = told (λ a. Map space a) answer (blocks_in before.map space) after before does.0 does.1
  computed (Lives i answer) does lawful = told (λ a. Lives i a) answer (is_some (before.living i)) after before does.0 does.1
  computed (Copied answer) does lawful = told (λ a. Copied a) answer before.copied after before does.0 does.1

-- an instance that lives is lawful
if_lives : {A : Type 0} (Holds : A → Type 0) → ((x : A) → Holds x) → (y : Option A) → IfSome y Holds
if_lives Holds all None = tt
if_lives Holds all (Some x) = all x

module _ {M : Type 0} (kinds : Meaning M) where
  lawful_call : (before : State M) → AreLawful kinds before.poison → (call : Call M) → IsLawfulCall kinds before call
  lawful_call before lawful (Create i kind g p answer) = lawful kind p
  lawful_call before lawful (Control i c answer) = if_lives (IsLawful kinds before.poison) (λ x. lawful x.kind x.params) (before.living i)
  lawful_call before lawful (Process i block out) = if_lives (IsLawful kinds before.poison) (λ x. lawful x.kind x.params) (before.living i)
  lawful_call before lawful (Delete i answer) = tt
  lawful_call before lawful (Release g answer) = tt
  lawful_call before lawful (Step space answer) = tt
  lawful_call before lawful (Compact space answer) = tt
  lawful_call before lawful (Stat g answer) = tt
  lawful_call before lawful (Map space answer) = tt
  lawful_call before lawful (Lives i answer) = tt
  lawful_call before lawful (Copied answer) = tt

  pub one_computed : (before after : State M) → AreLawful kinds before.poison → (call : Call M) → Does kinds before call after → (call, after) ≡ answered kinds before call
  one_computed before after lawful call does = computed kinds before after call does (lawful_call before lawful call)

  pub all_computed : (calls : List (Call M)) (before after : State M) → AreLawful kinds before.poison → Leads kinds before calls after
      → calls ≡ all_answered kinds before calls
  all_computed [] before after lawful leads = refl
  all_computed (call ∷ calls) before after lawful leads =
      let between = leads.0 in
      let one = one_computed before between lawful call leads.1 in
      let still : AreLawful kinds between.poison = subst (AreLawful kinds) (sym (host_stays kinds before between call leads.1).poison) lawful in
      ap (λ o. o.0 ∷ calls) one ∙ ap (λ rest. (answered kinds before call).0 ∷ rest)
      (all_computed calls between after still leads.2 ∙ ap (λ o. all_answered kinds o.1 calls) one)
