-- Each active member lives, in its group.
use Rattle.std.proofs.Common.{◌≡◌, ◌≢◌, ℕ, ℤ, Bool, true, false, cond, List, [], ◌∷◌, Option, Some, None, Result, Ok, Err, refl, ap, sym, ◌∙◌, subst}
use Rattle.std.specs.Prelude.{is_some, is_none, not, ◌&&◌, nat_eq}
use Rattle.std.proofs.lemmas.Bool.Decides.{eqb_tells}
use Rattle.std.proofs.lemmas.Option.{none-some, same_Some}
use Rattle.relocate.proofs.RangeTests.{either}
use Rattle.mem_rec.specs.declared.MemRec.{MemRec}
use Rattle.mem_rec.specs.declared.Space.{Space}
use Rattle.ialg.specs.History as history
use Rattle.ialg.specs.History.{Ctl, with_samples}
use Rattle.ialg.specs.Meaning.{Meaning, Status}
use Rattle.host_map.specs.declared.placed.Placed.{Placed}
use Rattle.host_map.specs.Moves.{next_block}
use Rattle.host_map.specs.MemoryMap.{MemoryMap, blocks_in}
use Rattle.host_map.specs.Creation.{created_map, replaces}
use Rattle.host_map.specs.Activity.{Activity, activated, deactivated, without_active, with_at}
use Rattle.host_spec.specs.State.{Living, State, sharers_of, is_instance_number, is_group_number}
use Rattle.host_spec.specs.Steps.{Outcome, newborn, create_refusal, created, with_room, with_memory, control_refusal, activating, controlled, given, instance_refusal, group_refusal, without_instance, moving}
use Rattle.host_spec.specs.Calls.{Call, Does}
use Rattle.host_spec.specs.Calls.Call.{Create, Control, Process, Delete, Release, Step, Compact, Stat, Map, Lives, Copied}
use Rattle.host_protocol.specs.Order.{ActiveLive}
use Rattle.host_spec.proofs.RunLemmas.{granted, none_there, refused_call}
use Rattle.host_protocol.proofs.Stages.{test_of, at_it}
use Rattle.host_protocol.proofs.Granted.{free, there_is, some_there}

-- what holds of the active member of each group, where that of group g is another one
active_by : {A : ℕ → ℕ → Type 0} (all : ℕ → Activity) (g : ℕ) (d : Activity)
    → ((j : ℕ) → d.active ≡ Some j → A g j) → ((h j : ℕ) → h ≢ g → (all h).active ≡ Some j → A h j)
    → (h j : ℕ) → (with_at all g d h).active ≡ Some j → A h j
active_by {A = A} all g d here apart h j active =
    either (eqb_tells h g)
    (λ e.
    let now : (with_at all g d h).active ≡ d.active = ap (λ (t : Bool). (cond t d (all h)).active) e.0 in
    subst (λ (k : ℕ). A k j) (sym e.1) (here j (sym now ∙ active)))
    (λ e.
    let now : (with_at all g d h).active ≡ (all h).active = ap (λ (t : Bool). (cond t d (all h)).active) e.0 in
    apart h j e.1 (sym now ∙ active))

module _ {M : Type 0} (kinds : Meaning M) (before : State M) (live : ActiveLive before) where
  -- the active member of group g in a state with these instances
  abbrev LivesIn : (ℕ → Option (Living M)) → ℕ → ℕ → Type 0
  LivesIn living g j = (x : Living M) × ((living j ≡ Some x) × (x.group ≡ g))

  by_state : (after next : State M) → after ≡ next → ActiveLive next → ActiveLive after
  by_state after next e lives = subst ActiveLive (sym e) lives

  same_lives : (after : State M) → after.living ≡ before.living → after.activity ≡ before.activity → ActiveLive after
  same_lives after living activity g j active =
      let was = live g j (sym (ap (λ (all : ℕ → Activity). (all g).active) activity) ∙ active) in
      (was.0, (ap (λ (l : ℕ → Option (Living M)). l j) living ∙ was.1.0, was.1.1))

  -- instance j, which isn't i, with another one in the place of i
  besides : (i j : ℕ) (y : Option (Living M)) (g : ℕ) → j ≢ i → LivesIn before.living g j → LivesIn (with_at before.living i y) g j
  besides i j y g apart was =
      let other : nat_eq j i ≡ false = either (eqb_tells j i) (λ s. absurd (apart s.1)) (λ s. s.0) in
      (was.0, (ap (λ (t : Bool). cond t y (before.living j)) other ∙ was.1.0, was.1.1))

  rest_lives : (g : ℕ) → ActiveLive (record before { activity = with_at before.activity g (deactivated (before.activity g)) })
  rest_lives g =
      active_by {A = LivesIn before.living} before.activity g (deactivated (before.activity g)) (λ j active. absurd (none-some j active)) (λ h j apart active. live h j active)

  turn_lives : (i : ℕ) (y y' : Living M) → before.living i ≡ Some y → y'.group ≡ y.group → ActiveLive (activating before i y')
  turn_lives i y y' there group =
      let itself : LivesIn (with_at before.living i (Some y')) y'.group i = (y', (at_it before.living i (Some y'), refl)) in
      active_by {A = LivesIn (with_at before.living i (Some y'))} before.activity y'.group (activated i (before.activity y'.group))
      (λ j active.
      let is : j ≡ i =
      either (test_of (before.activity y'.group).active i)
      (λ e. same_Some j i (sym active ∙ rw e.0 e.1))
      (λ e. same_Some j i (sym active ∙ rw e.0 refl)) in
      subst (λ (k : ℕ). LivesIn (with_at before.living i (Some y')) y'.group k) (sym is) itself)
      (λ h j apart active.
      let was = live h j active in
      besides i j (Some y') h
      (λ same. apart (sym was.1.1 ∙ ap (λ (z : Living M). z.group) (same_Some was.0 y (sym was.1.0 ∙ ap before.living same ∙ there)) ∙ sym group)) was)

  delete_lives : (i : ℕ) (y : Option (Living M)) → before.living i ≡ y → ActiveLive (without_instance kinds before i y)
  delete_lives i None there = live
  delete_lives i (Some y) there =
      active_by {A = LivesIn (with_at before.living i None)} before.activity y.group (without_active i (before.activity y.group))
      (λ j active.
      either (test_of (before.activity y.group).active i)
      (λ e. absurd (none-some j (rw e.0 at active)))
      (λ e.
      let was : (before.activity y.group).active ≡ Some j = rw e.0 at active in
      besides i j None y.group (λ same. e.1 (was ∙ ap Some same)) (live y.group j was)))
      (λ h j apart active.
      let was = live h j active in
      besides i j None h
      (λ same. apart (sym was.1.1 ∙ ap (λ (z : Living M). z.group) (same_Some was.0 y (sym was.1.0 ∙ ap before.living same ∙ there)))) was)

  create_lives : (i : ℕ) (n : Living M) (t : List MemRec) (map : MemoryMap) → before.living i ≡ None → ActiveLive (created before i n t map)
  create_lives i n t map empty = by (replaces before.map n.group t) refl
    where
      born : (g j : ℕ) → LivesIn before.living g j → LivesIn (with_at before.living i (Some n)) g j
      born g j was = besides i j (Some n) g (λ same. none-some was.0 (sym empty ∙ ap before.living (sym same) ∙ was.1.0)) was

      by : (b : Bool) → replaces before.map n.group t ≡ b → ActiveLive (created before i n t map)
      by true e =
          rw e
          (active_by {A = LivesIn (with_at before.living i (Some n))} before.activity n.group (deactivated (before.activity n.group))
          (λ j active. absurd (none-some j active)) (λ h j apart active. born h j (live h j active)))
      by false e = rw e (λ g j active. born g j (live g j active))

  memory_lives : (i : ℕ) (kind : M) (g : ℕ) (p : List ℤ) (table : Option (List MemRec)) → before.living i ≡ None → ActiveLive (with_memory kinds before i kind g p table).1
  memory_lives i kind g p None empty = live
  memory_lives i kind g p (Some t) empty = by (created_map before.sizes before.map i g t (sharers_of kinds before.living (newborn kind g p t)))
    where
      by : (placed : Result MemoryMap Space) → ActiveLive (with_room before i (newborn kind g p t) t placed).1
      by (Err space) = live
      by (Ok map) = create_lives i (newborn kind g p t) t map empty

  block_lives : (i : ℕ) (block : List ℤ) (y : Living M) → before.living i ≡ Some y → ActiveLive (given before i (Some y) block)
  block_lives i [] y there = live
  block_lives i (s ∷ block) y there = turn_lives i y (record y { history = with_samples y.history (s ∷ block) }) there refl

  moving_lives : (space : Space) (b : Option Placed) → ActiveLive (moving before space b).1
  moving_lives space None = live
  moving_lives space (Some b) = same_lives (moving before space (Some b)).1 refl refl

pub still_live : {M : Type 0} (kinds : Meaning M) (before after : State M) (call : Call M) → Does kinds before call after → ActiveLive before → ActiveLive after
still_live {M = M} kinds before after (Create i kind g p (Ok done)) does live =
    let empty = none_there (before.living i) (free (not (is_instance_number i && is_group_number g)) (is_some (before.living i)) before after _ done does.outcome) in
    by_state kinds before live after _ (ap (λ (o : Outcome (State M) (Unit {0})). o.1) (granted before (create_refusal before i g) (with_memory kinds before i kind g p does.table) done after does.outcome)) (memory_lives kinds before live i kind g p does.table empty)
still_live kinds before after (Create i kind g p (Err e)) does live = by_state kinds before live after before (refused_call kinds before after (Create i kind g p (Err e)) e does refl) live
still_live {M = M} kinds before after (Control i c (Ok status)) does live =
    let y = some_there (before.living i) (there_is (not (is_instance_number i)) (is_none (before.living i)) (not does.taken) before after _ status does.outcome) in
    let next = ap (λ (o : Outcome (State M) Status). o.1) (granted before (control_refusal before i does.taken) _ status after does.outcome) in
    by_state kinds before live after (controlled before i (Some y.0) c) (next ∙ ap (λ (l : Option (Living M)). controlled before i l c) y.1)
    (turn_lives kinds before live i y.0 (record y.0 { history = history.Control c ∷ y.0.history }) y.1 refl)
still_live kinds before after (Control i c (Err e)) does live = by_state kinds before live after before (refused_call kinds before after (Control i c (Err e)) e does refl) live
still_live {M = M} kinds before after (Process i block out) does live =
    by_state kinds before live after (given before i (Some does.instance) block) (does.outcome ∙ ap (λ (l : Option (Living M)). given before i l block) does.there)
    (block_lives kinds before live i block does.instance does.there)
still_live {M = M} kinds before after (Delete i (Ok done)) does live =
    by_state kinds before live after (without_instance kinds before i (before.living i))
    (ap (λ (o : Outcome (State M) (Unit {0})). o.1) (granted before (instance_refusal before i) _ done after does)) (delete_lives kinds before live i (before.living i) refl)
still_live kinds before after (Delete i (Err e)) does live = by_state kinds before live after before (refused_call kinds before after (Delete i (Err e)) e does refl) live
still_live {M = M} kinds before after (Release g (Ok was)) does live =
    by_state kinds before live after (record before { activity = with_at before.activity g (deactivated (before.activity g)) })
    (ap (λ (o : Outcome (State M) Bool). o.1) (granted before (group_refusal before g) _ was after does)) (rest_lives kinds before live g)
still_live kinds before after (Release g (Err e)) does live = by_state kinds before live after before (refused_call kinds before after (Release g (Err e)) e does refl) live
still_live {M = M} kinds before after (Step space moved) does live =
    by_state kinds before live after (moving before space (next_block (blocks_in before.map space))).1 (ap (λ (o : Bool × State M). o.1) does) (moving_lives kinds before live space _)
still_live {M = M} kinds before after (Compact space count) does live =
    same_lives kinds before live after (ap (λ (o : ℕ × State M). o.1.living) does) (ap (λ (o : ℕ × State M). o.1.activity) does)
still_live {M = M} kinds before after (Stat g (Ok activity)) does live =
    by_state kinds before live after before (ap (λ (o : Outcome (State M) Activity). o.1) (granted before (group_refusal before g) _ activity after does)) live
still_live kinds before after (Stat g (Err e)) does live = by_state kinds before live after before (refused_call kinds before after (Stat g (Err e)) e does refl) live
still_live kinds before after (Map space blocks) does live = by_state kinds before live after before does.1 live
still_live kinds before after (Lives i answer) does live = by_state kinds before live after before does.1 live
still_live kinds before after (Copied answer) does live = by_state kinds before live after before does.1 live
