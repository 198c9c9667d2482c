-- What the calls of a table leave is kept.
use Rattle.std.proofs.Common.{◌≡◌, ◌≤◌, ◌<◌, ℕ, ℤ, Bool, true, false, cond, List, ◌∷◌, ◌++◌, length, Option, Some, None, refl, ap, sym, ◌∙◌, subst}
use Rattle.std.specs.Prelude.{nat_eq, is_some, IsSome, IsTrue, Ok, Err}
use Rattle.mem_rec.specs.declared.TheConstants.{INSTANCES, GROUPS}
use Rattle.ialg.specs.declared.refusal.Refusal.TheVariants.{Command}
use Rattle.std.proofs.lemmas.Bool.Decides.{eqb_tells}
use Rattle.relocate.proofs.RangeTests.{either}
use Rattle.ialg.specs.History.{History, Ctl, Control, with_samples}
use Rattle.ialg.specs.Meaning.{Status, outputs_of, status_of}
use Rattle.ialg.specs.Records.{unplaced}
use Rattle.ialg.specs.Laws.{Laws}
use Rattle.scratch_group.specs.declared.group.Group.{Group}
use Rattle.lifecycle.specs.States.{IsLawful, all_outputs, status_after}
use Rattle.host_table.specs.declared.member.Member.{Member}
use Rattle.host_shared.specs.declared.locations.Locations.{Locations}
use Rattle.host_map.specs.Activity.{Activity, activated, deactivated, with_at}
use Rattle.host_table.specs.Table.{slot_at, group_at, group_of, instance_of, activity_at, activated_by}
use Rattle.host_shared.specs.Locations.{shared_at}
use Rattle.host_table.specs.Refinement.{HistoriesRefine, SlotRefines, with_history}
use Rattle.host_table.specs.Frames.{SameSlot, SameTables, IsSameMember, SameMembers}
use Rattle.host_spec.specs.State.{Living, State}
use Rattle.host_spec.specs.Choices.{MayGive, MayAnswer}
use Rattle.host_spec.specs.Steps.{Outcome, activating, processed, release}
use Rattle.host_spec.specs.Calls.{Processes, Controls}
use Rattle.host_spec.proofs.OutcomeLemmas.{process_some, release_granted, control_granted, control_command}
use Rattle.host_moves.specs.Refinement.{IsInstance, IsLiving, history_of, ListsRefine}
use Rattle.std.proofs.lemmas.Option.{same_Some}

-- the member in a slot, and the instance that it is
pub record Found {M : Type 0} (slot : Option (Member M)) (living : Option (Living M)) : Type 0 where
  pub member : Member M
  pub instance : Living M
  pub there : slot ≡ Some member
  pub lives : living ≡ Some instance
  pub is : IsInstance member instance

pub found : {M : Type 0} (slot : Option (Member M)) (living : Option (Living M)) → IsSome slot → IsLiving slot living → Found slot living
found None living some is = cc
found (Some m) None some is = absurd is
found (Some m) (Some x) some is = record { member = m; instance = x; there = refl; lives = refl; is = is }

module _ {M : Type 0} where
  -- the same instance in the same group is the same for the machine, whatever its history
  same_living : (slot slot' : Option (Member M)) (living : Option (Living M)) → SameSlot slot slot' → IsLiving slot living → IsLiving slot' living
  same_living None slot' living same is = subst (λ s. IsLiving s living) (sym same) is
  same_living (Some m) None living same is = absurd same
  same_living (Some m) (Some n) None same is = is
  same_living (Some m) (Some n) (Some x) same is = record {
    kind = same.1.kind ∙ is.kind;
    params = ap (λ p. p.items) same.1.params ∙ is.params;
    table = ap unplaced same.1.table ∙ is.table;
    group = same.0 ∙ is.group;
  }

  same_member : (slot slot' : Option (Member M)) (living : Option (Living M)) → IsSameMember slot slot' → IsLiving slot living → IsLiving slot' living
  same_member None slot' living same is = subst (λ s. IsLiving s living) (sym same) is
  same_member (Some m) None living same is = absurd same
  same_member (Some m) (Some n) None same is = is
  same_member (Some m) (Some n) (Some x) same is = record {
    kind = same.kind ∙ is.kind;
    params = ap (λ p. p.items) same.params ∙ is.params;
    table = same.table ∙ is.table;
    group = same.group ∙ is.group;
  }

  aged : (slot : Option (Member M)) (x : Living M) (h : History) → IsLiving slot (Some x) → IsLiving slot (Some (record x { history = h }))
  aged None x h is = is
  aged (Some m) x h is = record { kind = is.kind; params = is.params; table = is.table; group = is.group }

  at_other : (living : ℕ → Option (Living M)) (i : ℕ) (x : Option (Living M)) (j : ℕ) → nat_eq j i ≡ false → with_at living i x j ≡ living j
  at_other living i x j off = ap (λ b. cond b x (living j)) off

  -- the histories of the instances, with another one
  history_with : (living : ℕ → Option (Living M)) (i : ℕ) (x : Living M) (h : History) (j : ℕ)
      → with_history (λ k. history_of (living k)) i h j ≡ history_of (with_at living i (Some (record x { history = h })) j)
  history_with living i x h j =
      either (eqb_tells j i)
      (λ same. ap (λ b. cond b h (history_of (living j))) same.0 ∙ sym (ap (λ b. history_of (cond b (Some (record x { history = h })) (living j))) same.0))
      (λ apart. ap (λ b. cond b h (history_of (living j))) apart.0 ∙ sym (ap (λ b. history_of (cond b (Some (record x { history = h })) (living j))) apart.0))

module _ {M : Type 0} (laws : Laws M) where
  keeps_these : (w : Option ℤ) (instances : List (Option (Member M))) (sharing : List Locations) (groups : List Group) (old new : ℕ → History)
      → ((i : ℕ) → old i ≡ new i) → HistoriesRefine laws w instances sharing groups old → HistoriesRefine laws w instances sharing groups new
  keeps_these w instances sharing groups old new same keeps =
      (keeps.0, λ i. subst (λ (h : History). SlotRefines laws w (slot_at instances i) (shared_at sharing i) groups (record { history = h; calls = keeps.0 i })) (same i) (keeps.1 i))

  module _ (instances : List (Option (Member M))) (sharing : List Locations) (groups : List Group)
      (instances' : List (Option (Member M))) (sharing' : List Locations) (groups' : List Group) (before : State M) (i : ℕ) where
    abbrev Kept : State M → Type 0
    Kept state = ListsRefine laws instances' sharing' groups' state

    -- an instance was touched, and its history is h now
    module _ (kept : ListsRefine laws instances sharing groups before)
        (its : Found (slot_at instances i) (before.living i)) (h : History)
        (same : SameTables instances sharing groups instances' sharing' groups')
        (activity : (k : ℕ) → activity_at groups' k ≡ activated_by instances groups i k)
        (keeps : HistoriesRefine laws before.poison instances' sharing' groups' (with_history (λ j. history_of (before.living j)) i h)) where
      abbrev aged_x : Living M
      aged_x = record its.instance { history = h }

      lives_on : (j : ℕ) → IsLiving (slot_at instances' j) (with_at before.living i (Some aged_x) j)
      lives_on j =
          let stays = same_living (slot_at instances j) (slot_at instances' j) (before.living j) (same.slot j) (kept.living j) in
          either (eqb_tells j i)
          (λ here. subst (IsLiving (slot_at instances' j)) (sym (ap (λ b. cond b (Some aged_x) (before.living j)) here.0))
          (aged (slot_at instances' j) its.instance h (subst (IsLiving (slot_at instances' j)) (ap before.living here.1 ∙ its.lives) stays)))
          (λ apart. subst (IsLiving (slot_at instances' j)) (sym (at_other before.living i (Some aged_x) j apart.0)) stays)

      -- the group of the slot is the instance's
      its_group : group_of (slot_at instances i) ≡ its.instance.group
      its_group = ap group_of its.there ∙ its.is.group

      active_now : (k : ℕ) → activity_at groups' k ≡ with_at before.activity its.instance.group (activated i (before.activity its.instance.group)) k
      active_now k =
          activity k
          ∙ ap (λ g. with_at (activity_at groups) g (activated i (activity_at groups g)) k) its_group
          ∙ ap (λ a. with_at (activity_at groups) its.instance.group (activated i a) k) (kept.activity its.instance.group)
          ∙ ap (λ a. cond (nat_eq k its.instance.group) (activated i (before.activity its.instance.group)) a) (kept.activity k)

      pub kept_touching : Kept (activating before i aged_x)
      kept_touching = record {
        living = lives_on;
        activity = active_now;
        histories = keeps_these before.poison instances' sharing' groups' (with_history (λ j. history_of (before.living j)) i h)
            (λ j. history_of (with_at before.living i (Some aged_x) j)) (history_with before.living i its.instance h) keeps;
      }

    -- what a call keeps, in a host of this poison word
    abbrev pub KeepsBy : (History → History) → Option ℤ → Type 0
    KeepsBy longer w = (histories : ℕ → History) → HistoriesRefine laws w instances sharing groups histories
        → HistoriesRefine laws w instances' sharing' groups' (with_history histories i (longer (histories i)))

    -- what a block gives
    abbrev pub GivesBy : List ℤ → List ℤ → Option ℤ → Type 0
    GivesBy block out w = (histories : ℕ → History) → HistoriesRefine laws w instances sharing groups histories
        → (m : Member M) → slot_at instances i ≡ Some m → IsLawful laws.meaning (instance_of m.inst) w
        → all_outputs laws.meaning (instance_of m.inst) (with_samples (histories i) block) ≡ all_outputs laws.meaning (instance_of m.inst) (histories i) ++ out

    -- a block of samples
    module _ (kept : ListsRefine laws instances sharing groups before) (block out : List ℤ)
        (same : SameTables instances sharing groups instances' sharing' groups')
        (activity : (k : ℕ) → activity_at groups' k ≡ activated_by instances groups i k)
        (keeps : KeepsBy (λ h. with_samples h block) before.poison)
        (output : GivesBy block out before.poison)
        (bounded : length out ≤ length block) (some : 1 ≤ length block) where
      abbrev histories : ℕ → History
      histories j = history_of (before.living j)

      module _ (its : Found (slot_at instances i) (before.living i)) where
        its_history : histories i ≡ its.instance.history
        its_history = ap history_of its.lives

        outputs_by_instance : (h : History) → all_outputs laws.meaning (instance_of its.member.inst) h ≡ outputs_of laws.meaning its.instance.kind its.instance.params h
        outputs_by_instance h = ap (λ k. outputs_of laws.meaning k (instance_of its.member.inst).params.items h) its.is.kind ∙ ap (λ p. outputs_of laws.meaning its.instance.kind p h) its.is.params

        gives : MayGive laws.meaning before.poison its.instance block out
        gives = record {
          lawful = λ lawful.
              let its_own : IsLawful laws.meaning (instance_of its.member.inst) before.poison =
              subst (λ k. IsTrue (laws.meaning.lawful k (instance_of its.member.inst).params.items before.poison)) (sym its.is.kind)
              (subst (λ p. IsTrue (laws.meaning.lawful its.instance.kind p before.poison)) (sym its.is.params) lawful) in
              ap (λ h. outputs_of laws.meaning its.instance.kind its.instance.params (with_samples h block)) (sym its_history)
              ∙ sym (outputs_by_instance (with_samples (histories i) block))
              ∙ output histories kept.histories its.member its.there its_own
              ∙ ap (λ all. all ++ out) (outputs_by_instance (histories i) ∙ ap (outputs_of laws.meaning its.instance.kind its.instance.params) its_history);
          bounded = bounded;
        }

        block_kept : Processes laws.meaning before i block out (processed before i block) × Kept (processed before i block)
        block_kept =
            let h = with_samples its.instance.history block in
            let now = keeps histories kept.histories in (
              record { instance = its.instance; there = its.lives; gives = gives; outcome = refl },
              subst Kept (sym (process_some before i block its.instance its.lives some))
                  (kept_touching kept its h same activity
                  (subst (λ k. HistoriesRefine laws before.poison instances' sharing' groups' (with_history histories i (with_samples k block))) its_history now)),
            )

      given_kept : IsSome (slot_at instances i) → Processes laws.meaning before i block out (processed before i block) × Kept (processed before i block)
      given_kept living = block_kept (found (slot_at instances i) (before.living i) living (kept.living i))

    -- the same, in a host of poison word w
    pub block_given : (w : Option ℤ) (block out : List ℤ) → before.poison ≡ w
        → ListsRefine laws instances sharing groups before → IsSome (slot_at instances i)
        → SameTables instances sharing groups instances' sharing' groups' → ((k : ℕ) → activity_at groups' k ≡ activated_by instances groups i k)
        → KeepsBy (λ h. with_samples h block) w → GivesBy block out w → length out ≤ length block → 1 ≤ length block
        → Processes laws.meaning before i block out (processed before i block) × Kept (processed before i block)
    block_given w block out e kept living same activity keeps output bounded some =
        given_kept kept block out same activity (subst (KeepsBy (λ h. with_samples h block)) (sym e) keeps) (subst (GivesBy block out) (sym e) output) bounded some living

    -- the member was put to rest in group g
    pub deactivated_kept : (w : Option ℤ) (g : ℕ) → before.poison ≡ w → ListsRefine laws instances sharing groups before
        → SameTables instances sharing groups instances' sharing' groups'
        → ((k : ℕ) → activity_at groups' k ≡ with_at (activity_at groups) g (deactivated (activity_at groups g)) k)
        → ((histories : ℕ → History) → HistoriesRefine laws w instances sharing groups histories
        → HistoriesRefine laws w instances' sharing' groups' histories)
        → Kept (record before { activity = with_at before.activity g (deactivated (before.activity g)) })
    deactivated_kept w g e kept same activity keeps = record {
      living = λ j. same_living (slot_at instances j) (slot_at instances' j) (before.living j) (same.slot j) (kept.living j);
      activity = λ k.
          activity k
          ∙ ap (λ a. with_at (activity_at groups) g (deactivated a) k) (kept.activity g)
          ∙ ap (λ a. cond (nat_eq k g) (deactivated (before.activity g)) a) (kept.activity k);
      histories =
          let histories : ℕ → History = λ j. history_of (before.living j) in
          subst (λ v. HistoriesRefine laws v instances' sharing' groups' histories) (sym e)
          (keeps histories (subst (λ v. HistoriesRefine laws v instances sharing groups histories) e kept.histories));
    }

    pub rest_answered : (g : ℕ) (result : Bool) → g < GROUPS → ListsRefine laws instances sharing groups before
        → result ≡ is_some (group_at groups g).active
        → ◌≡◌ {A = Outcome (State M) Bool} (Ok result, record before { activity = with_at before.activity g (deactivated (before.activity g)) }) (release before g)
    rest_answered g result lt kept active =
        let now : State M = record before { activity = with_at before.activity g (deactivated (before.activity g)) } in
        subst (λ b. ◌≡◌ {A = Outcome (State M) Bool} (Ok b, now) (release before g)) (sym (active ∙ ap (λ (a : Activity). is_some a.active) (kept.activity g)))
        (sym (release_granted before g lt))

    -- ---- controls

    -- whether the table's instance takes a control, and what it answers
    abbrev pub TakesBy : Ctl → Bool → Option ℤ → Type 0
    TakesBy c taken w = (m : Member M) → slot_at instances i ≡ Some m → IsLawful laws.meaning (instance_of m.inst) w
        → taken ≡ laws.meaning.accepts (instance_of m.inst).kind (instance_of m.inst).params.items c

    abbrev pub AnswersBy : Ctl → Status → Option ℤ → Type 0
    AnswersBy c status w = (histories : ℕ → History) (m : Member M) → slot_at instances i ≡ Some m → IsLawful laws.meaning (instance_of m.inst) w
        → HistoriesRefine laws w instances sharing groups histories → status ≡ status_after laws.meaning (instance_of m.inst) (histories i) c

    module _ (kept : ListsRefine laws instances sharing groups before) (its : Found (slot_at instances i) (before.living i)) (c : Ctl) where
      lawful_there : IsTrue (laws.meaning.lawful its.instance.kind its.instance.params before.poison) → IsLawful laws.meaning (instance_of its.member.inst) before.poison
      lawful_there lawful =
          subst (λ k. IsTrue (laws.meaning.lawful k (instance_of its.member.inst).params.items before.poison)) (sym its.is.kind)
          (subst (λ p. IsTrue (laws.meaning.lawful its.instance.kind p before.poison)) (sym its.is.params) lawful)

      taken_there : (taken : Bool) → TakesBy c taken before.poison → IsTrue (laws.meaning.lawful its.instance.kind its.instance.params before.poison)
          → taken ≡ laws.meaning.accepts its.instance.kind its.instance.params c
      taken_there taken takes lawful =
          takes its.member its.there (lawful_there lawful)
          ∙ ap (λ k. laws.meaning.accepts k (instance_of its.member.inst).params.items c) its.is.kind ∙ ap (λ p. laws.meaning.accepts its.instance.kind p c) its.is.params

      status_there : (status : Status) → AnswersBy c status before.poison → IsTrue (laws.meaning.lawful its.instance.kind its.instance.params before.poison)
          → status ≡ status_of laws.meaning its.instance.kind its.instance.params its.instance.history c
      status_there status answers lawful =
          answers (λ j. history_of (before.living j)) its.member its.there (lawful_there lawful) kept.histories
          ∙ ap (λ k. status_of laws.meaning k (instance_of its.member.inst).params.items (history_of (before.living i)) c) its.is.kind
          ∙ ap (λ p. status_of laws.meaning its.instance.kind p (history_of (before.living i)) c) its.is.params
          ∙ ap (λ h. status_of laws.meaning its.instance.kind its.instance.params h c) (ap history_of its.lives)

      one_lives : (taken : Bool) (status : Status) → MayAnswer laws.meaning before.poison its.instance c taken status
          → (x : Living M) → before.living i ≡ Some x → MayAnswer laws.meaning before.poison x c taken status
      one_lives taken status may x lives = subst (λ y. MayAnswer laws.meaning before.poison y c taken status) (same_Some its.instance x (sym its.lives ∙ lives)) may

      control_taken : (status : Status) → i < INSTANCES → TakesBy c true before.poison → AnswersBy c status before.poison
          → SameTables instances sharing groups instances' sharing' groups' → ((k : ℕ) → activity_at groups' k ≡ activated_by instances groups i k)
          → KeepsBy (λ h. Control c ∷ h) before.poison
          → (after : State M) × Controls laws.meaning before i c (Ok status) after × Kept after
      control_taken status lt takes answers same activity keeps =
          let h = Control c ∷ its.instance.history in (
            activating before i (record its.instance { history = h }),
            record {
              taken = true;
              status = status;
              answers = one_lives true status (record { acceptance = taken_there true takes; answer = status_there status answers });
              outcome = sym (control_granted before i c status its.instance lt its.lives);
            },
            kept_touching kept its h same activity
                (subst (λ k. HistoriesRefine laws before.poison instances' sharing' groups' (with_history (λ j. history_of (before.living j)) i (Control c ∷ k))) (ap history_of its.lives)
                (keeps (λ j. history_of (before.living j)) kept.histories)),
          )

      control_not_taken : i < INSTANCES → TakesBy c false before.poison → Controls laws.meaning before i c (Err Command) before
      control_not_taken lt takes =
          let status = status_of laws.meaning its.instance.kind its.instance.params its.instance.history c in
          record {
            taken = false;
            status = status;
            answers = one_lives false status (record { acceptance = taken_there false takes; answer = λ lawful. refl });
            outcome = sym (control_command before i c status its.instance lt its.lives);
          }

    -- the same, in a host of poison word w
    pub control_given : (w : Option ℤ) (c : Ctl) (status : Status) → before.poison ≡ w
        → ListsRefine laws instances sharing groups before → IsSome (slot_at instances i) → i < INSTANCES
        → TakesBy c true w → AnswersBy c status w
        → SameTables instances sharing groups instances' sharing' groups' → ((k : ℕ) → activity_at groups' k ≡ activated_by instances groups i k)
        → KeepsBy (λ h. Control c ∷ h) w
        → (after : State M) × Controls laws.meaning before i c (Ok status) after × Kept after
    control_given w c status e kept living lt takes answers same activity keeps =
        control_taken kept (found (slot_at instances i) (before.living i) living (kept.living i)) c status lt
        (subst (TakesBy c true) (sym e) takes) (subst (AnswersBy c status) (sym e) answers) same activity (subst (KeepsBy (λ h. Control c ∷ h)) (sym e) keeps)

    pub control_refused : (w : Option ℤ) (c : Ctl) → before.poison ≡ w
        → ListsRefine laws instances sharing groups before → IsSome (slot_at instances i) → i < INSTANCES
        → TakesBy c false w → Controls laws.meaning before i c (Err Command) before
    control_refused w c e kept living lt takes =
        control_not_taken kept (found (slot_at instances i) (before.living i) living (kept.living i)) c lt (subst (TakesBy c false) (sym e) takes)

    -- nothing has happened
    pub same_kept : instances' ≡ instances → sharing' ≡ sharing → groups' ≡ groups → ListsRefine laws instances sharing groups before → Kept before
    same_kept e f h kept =
        subst (λ s. ListsRefine laws s sharing' groups' before) (sym e)
        (subst (λ o. ListsRefine laws instances o groups' before) (sym f)
        (subst (λ y. ListsRefine laws instances sharing y before) (sym h) kept))

    -- the members were told of a move
    pub told_kept : SameMembers instances sharing groups instances' sharing' groups' → ((k : ℕ) → activity_at groups' k ≡ activity_at groups k)
        → ((w : Option ℤ) (histories : ℕ → History) → HistoriesRefine laws w instances sharing groups histories
        → HistoriesRefine laws w instances' sharing' groups' histories)
        → ListsRefine laws instances sharing groups before → Kept before
    told_kept same activity keeps kept = record {
      living = λ j. same_member (slot_at instances j) (slot_at instances' j) (before.living j) (same.slot j) (kept.living j);
      activity = λ k. activity k ∙ kept.activity k;
      histories = keeps before.poison (λ j. history_of (before.living j)) kept.histories;
    }
