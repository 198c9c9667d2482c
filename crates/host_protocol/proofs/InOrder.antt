-- The calls that a call of a host makes are in IALG's order.
use Rattle.std.proofs.Common.{◌≡◌, ℕ, ℤ, Bool, true, false, cond, List, [], ◌∷◌, Option, Some, None, Result, Ok, Err, refl, ap, sym, ◌∙◌}
use Rattle.std.specs.Prelude.{is_some, is_none, not, ◌&&◌, nat_eq}
use Rattle.std.specs.Option.{option_eq}
use Rattle.std.proofs.lemmas.Bool.{eq-eqb}
use Rattle.std.proofs.lemmas.Bool.Decides.{eqb_tells}
use Rattle.std.proofs.lemmas.Option.{none-some}
use Rattle.relocate.proofs.RangeTests.{either}
use Rattle.mem_rec.specs.declared.MemRec.{MemRec}
use Rattle.mem_rec.specs.declared.Space.{Space}
use Rattle.ialg.specs.declared.refusal.Refusal.TheVariants.{Params, Room}
use Rattle.ialg.specs.History as history
use Rattle.ialg.specs.History.{Ctl, with_samples}
use Rattle.ialg.specs.Log as call_of
use Rattle.ialg.specs.Log.{Called, Init, Activate, Deactivate, Moved}
use Rattle.ialg.specs.Meaning.{Meaning, Status}
use Rattle.ialg.specs.Records.{unplaced}
use Rattle.host_map.specs.declared.placed.Placed.{Placed}
use Rattle.host_map.specs.Moves.{next_block, unpacked_behind}
use Rattle.host_map.specs.MemoryMap.{MemoryMap, blocks_in}
use Rattle.host_map.specs.Creation.{created_map, replaces}
use Rattle.host_map.specs.Activity.{Activity, deactivated, with_at}
use Rattle.host_spec.specs.State.{Living, State, sharers_of, is_instance_number, is_group_number, is_of_group}
use Rattle.host_spec.specs.Steps as steps
use Rattle.host_spec.specs.Steps.{Outcome, unless, newborn, create_refusal, created, with_room, with_memory, control_refusal, activating, controlled, given, instance_refusal, group_refusal, without_instance, moving}
use Rattle.host_spec.specs.Calls.{Call, Does}
use Rattle.host_spec.specs.Calls.Call.{Create, Control, Process, Delete, Release, Step, Compact, Stat, Map, Lives, Copied}
use Rattle.host_protocol.specs.Protocol.{active_beside, block_calls, end_calls, rest_calls, call_of_active, calls_made, creation_calls, has_words_in, move_calls, step_calls}
use Rattle.host_protocol.specs.Order.{Stage, Unborn, Idle, stage_by, stage_of, ActiveLive}
use Rattle.host_spec.proofs.RunLemmas.{granted, none_there, refused_call}
use Rattle.host_protocol.proofs.Stages.{test_of, stage_with, at_it, rests_and_moves, Processed, Commanded, moves_by, is_born, moves_all, beside, released, left_beside, taken_turn, replaces_same, IsOfActive, Processed, Commanded}
use Rattle.host_protocol.proofs.Granted.{unlike, free, there_is, some_there}

-- ---- each call

module _ {M : Type 0} (kinds : Meaning M) (before : State M) (live : ActiveLive before) (j : ℕ) (x : Living M) where
  abbrev InOrder : List Called → State M → Type 0
  InOrder calls state = stage_by (stage_of before j (before.living j)) calls ≡ Some (stage_of state j (state.living j))

  unchanged : (after : State M) → after ≡ before → InOrder [] after
  unchanged after e = ap (λ (s : State M). Some (stage_of s j (s.living j))) (sym e)

  -- where it lived before, with the same activities
  as_it_was : (calls : List Called) (after : State M) → after.living ≡ before.living → after.activity ≡ before.activity → after.living j ≡ Some x
      → stage_by (stage_with (before.activity x.group).active j) calls ≡ Some (stage_with (before.activity x.group).active j) → InOrder calls after
  as_it_was calls after living activity lives e =
      let here : before.living j ≡ Some x = sym (ap (λ (l : ℕ → Option (Living M)). l j) living) ∙ lives in
      ap (λ (l : Option (Living M)). stage_by (stage_of before j l) calls) here ∙ e
      ∙ ap (λ (all : ℕ → Activity). Some (stage_with (all x.group).active j)) (sym activity)
      ∙ ap (λ (l : Option (Living M)). Some (stage_of after j l)) (sym lives)

  in_release : (g : ℕ) (after : State M) → after ≡ record before { activity = with_at before.activity g (deactivated (before.activity g)) }
      → after.living j ≡ Some x → InOrder (rest_calls (before.activity g).active j) after
  in_release g after e lives =
      let here : before.living j ≡ Some x = sym (ap (λ (s : State M). s.living j) e) ∙ lives in
      ap (λ (l : Option (Living M)). stage_by (stage_of before j l) (rest_calls (before.activity g).active j)) here
      ∙ released before live j x here g
      ∙ ap (λ (s : State M). Some (stage_with (s.activity x.group).active j)) (sym e)
      ∙ ap (λ (l : Option (Living M)). Some (stage_of after j l)) (sym lives)

  in_turn : (i : ℕ) (y y' : Living M) (call : Called) → IsOfActive call → before.living i ≡ Some y → y'.group ≡ y.group
      → (after : State M) → after ≡ activating before i y' → after.living j ≡ Some x
      → InOrder (call_of_active call i (active_beside kinds before (before.living i)) j) after
  in_turn i y y' call is there group after e lives =
      let next : State M = activating before i y' in
      let now : next.living j ≡ Some x = sym (ap (λ (s : State M). s.living j) e) ∙ lives in
      ap (λ (l : Option (Living M)). stage_by (stage_of before j (before.living j)) (call_of_active call i (active_beside kinds before l) j)) there
      ∙ taken_turn before live i y there call is y' group j x now
      ∙ ap (λ (s : State M). Some (stage_of s j (s.living j))) (sym e)

  in_deletion : (i : ℕ) (y : Option (Living M)) → before.living i ≡ y → (after : State M) → after ≡ without_instance kinds before i y
      → after.living j ≡ Some x → InOrder (end_calls kinds before i j) after
  in_deletion i None there after e lives =
      let gone : end_calls kinds before i j ≡ [] =
      either (eqb_tells j i)
      (λ s. absurd (none-some x (sym there ∙ ap before.living (sym s.1) ∙ sym (ap (λ (q : State M). q.living j) e) ∙ lives)))
      (λ s. rw s.0 refl) in
      ap (λ (cs : List Called). stage_by (stage_of before j (before.living j)) cs) gone ∙ unchanged after e
  in_deletion i (Some y) there after e lives =
      let next : State M = without_instance kinds before i (Some y) in
      let now : next.living j ≡ Some x = sym (ap (λ (s : State M). s.living j) e) ∙ lives in
      either (eqb_tells j i)
      (λ s. absurd (none-some x (sym (ap (λ (k : ℕ). with_at before.living i None k) s.1 ∙ at_it before.living i None) ∙ now)))
      (λ s.
      let same : next.living j ≡ before.living j = ap (λ (t : Bool). cond t None (before.living j)) s.0 in
      let here : before.living j ≡ Some x = sym same ∙ now in
      let none : end_calls kinds before i j ≡ [] = ap (λ (t : Bool). cond t (rest_calls (active_beside kinds before (before.living i)) j) []) s.0 in
      ap (λ (cs : List Called). stage_by (stage_of before j (before.living j)) cs) none
      ∙ ap (λ (l : Option (Living M)). Some (stage_of before j l)) here
      ∙ left_beside before live j x here i y.group s.1
      ∙ ap (λ (l : Option (Living M)). Some (stage_of next j l)) (sym now)
      ∙ ap (λ (q : State M). Some (stage_of q j (q.living j))) (sym e))

  in_step : (space : Space) (b : Option Placed) (after : State M) → after ≡ (moving before space b).1 → after.living j ≡ Some x
      → InOrder (step_calls kinds before b j) after
  in_step space None after e lives = unchanged after e
  in_step space (Some b) after e lives =
      as_it_was (move_calls kinds before b j) after (ap (λ (s : State M). s.living) e) (ap (λ (s : State M). s.activity) e) lives
      (moves_by (has_words_in kinds before b.owner j) _ (is_born (before.activity x.group).active j))

  in_creation : (i : ℕ) (kind : M) (g : ℕ) (p : List ℤ) (t : List MemRec) (map : MemoryMap) → before.living i ≡ None
      → (after : State M) → after ≡ created before i (newborn kind g p t) t map → after.living j ≡ Some x
      → InOrder (creation_calls kinds before i (after.living i) j) after
  in_creation i kind g p t map empty after e lives =
      let n : Living M = newborn kind g p t in
      let next : State M = created before i n t map in
      let now : next.living j ≡ Some x = sym (ap (λ (s : State M). s.living j) e) ∙ lives in
      let born : after.living i ≡ Some n = ap (λ (s : State M). s.living i) e ∙ at_it before.living i (Some n) in
      let new : (b : Bool) → replaces before.map g t ≡ b → stage_with (next.activity g).active i ≡ Idle = λ b is.
      by_replaced b is in
      ap (λ (l : Option (Living M)). stage_by (stage_of before j (before.living j)) (creation_calls kinds before i l j)) born
      ∙ either (eqb_tells j i)
      (λ s.
      let none : before.living j ≡ None = ap before.living s.1 ∙ empty in
      let itself : next.living j ≡ Some n = ap (λ (k : ℕ). with_at before.living i (Some n) k) s.1 ∙ at_it before.living i (Some n) in
      ap (λ (l : Option (Living M)). stage_by (stage_of before j l) (creation_calls kinds before i (Some n) j)) none
      ∙ ap (λ (b : Bool). stage_by Unborn (cond b (Init ∷ []) (cond (replaces before.map g (unplaced t) && is_of_group g (before.living j)) (Moved ∷ rest_calls (before.activity g).active j) []))) s.0
      ∙ ap (λ (q : Stage). Some q) (sym (new (replaces before.map g t) refl))
      ∙ ap (λ (k : ℕ). Some (stage_with (next.activity g).active k)) (sym s.1)
      ∙ ap (λ (l : Option (Living M)). Some (stage_of next j l)) (sym itself))
      (λ s.
      let same : next.living j ≡ before.living j = ap (λ (b : Bool). cond b (Some n) (before.living j)) s.0 in
      let here : before.living j ≡ Some x = sym same ∙ now in
      ap (λ (b : Bool). stage_by (stage_of before j (before.living j)) (cond b (Init ∷ []) (cond (replaces before.map g (unplaced t) && is_of_group g (before.living j)) (Moved ∷ rest_calls (before.activity g).active j) []))) s.0
      ∙ ap (λ (l : Option (Living M)). stage_by (stage_of before j l) (cond (replaces before.map g (unplaced t) && is_of_group g l) (Moved ∷ rest_calls (before.activity g).active j) [])) here
      ∙ ap (λ (b : Bool). stage_by (stage_with (before.activity x.group).active j) (cond (b && nat_eq x.group g) (Moved ∷ rest_calls (before.activity g).active j) [])) (replaces_same before.map g t)
      ∙ told here (replaces before.map g t) refl
      ∙ ap (λ (l : Option (Living M)). Some (stage_of next j l)) (sym now))
      ∙ ap (λ (q : State M). Some (stage_of q j (q.living j))) (sym e)
    where
      idle_new : option_eq nat_eq (before.activity g).active (Some i) ≡ false
      idle_new =
          either (test_of (before.activity g).active i)
          (λ s. let y = live g i s.1 in absurd (none-some y.0 (sym empty ∙ y.1.0)))
          (λ s. s.0)

      by_replaced : (b : Bool) → replaces before.map g t ≡ b → stage_with ((created before i (newborn kind g p t) t map).activity g).active i ≡ Idle
      by_replaced true is = rw is (ap (λ (a : Activity). stage_with a.active i) (at_it before.activity g (deactivated (before.activity g))))
      by_replaced false is = rw is (rw idle_new refl)

      told : before.living j ≡ Some x → (b : Bool) → replaces before.map g t ≡ b
          → stage_by (stage_with (before.activity x.group).active j) (cond (replaces before.map g t && nat_eq x.group g) (Moved ∷ rest_calls (before.activity g).active j) [])
          ≡ Some (stage_with ((created before i (newborn kind g p t) t map).activity x.group).active j)
      told here true is =
          rw is
          (beside before.activity g (deactivated (before.activity g)) x.group j (cond (nat_eq x.group g) (Moved ∷ rest_calls (before.activity g).active j) [])
          (λ same. ap (λ (b : Bool). stage_by (stage_with (before.activity g).active j) (cond b (Moved ∷ rest_calls (before.activity g).active j) [])) (eq-eqb x.group g same) ∙ rests_and_moves (before.activity g).active j)
          (λ apart. let other : nat_eq x.group g ≡ false = either (eqb_tells x.group g) (λ s. absurd (apart s.1)) (λ s. s.0) in rw other refl))
      told here false is = rw is refl

  in_memory : (i : ℕ) (kind : M) (g : ℕ) (p : List ℤ) (table : Option (List MemRec)) (done : Unit {0}) → before.living i ≡ None
      → (after : State M) → (Ok done, after) ≡ with_memory kinds before i kind g p table → after.living j ≡ Some x
      → InOrder (creation_calls kinds before i (after.living i) j) after
  in_memory i kind g p None done empty after e lives = absurd (unlike before after done Params e)
  in_memory i kind g p (Some t) done empty after e lives =
      in_room (created_map before.sizes before.map i g t (sharers_of kinds before.living (newborn kind g p t))) e
    where
      in_room : (placed : Result MemoryMap Space) → (Ok done, after) ≡ with_room before i (newborn kind g p t) t placed
          → InOrder (creation_calls kinds before i (after.living i) j) after
      in_room (Err space) e = absurd (unlike before after done (Room space) e)
      in_room (Ok map) e = in_creation i kind g p t map empty after (ap (λ (o : Outcome (State M) (Unit {0})). o.1) e) lives

  in_block : (i : ℕ) (block : List ℤ) (y : Living M) → before.living i ≡ Some y → (after : State M) → after ≡ given before i (before.living i) block
      → after.living j ≡ Some x → InOrder (block_calls kinds before i block j) after
  in_block i [] y there after e lives = unchanged after (e ∙ ap (λ (l : Option (Living M)). given before i l []) there)
  in_block i (s ∷ block) y there after e lives =
      in_turn i y (record y { history = with_samples y.history (s ∷ block) }) call_of.Process Processed there refl after
      (e ∙ ap (λ (l : Option (Living M)). given before i l (s ∷ block)) there) lives

  in_control : (i : ℕ) (c : Ctl) (taken : Bool) (status answer : Status) (after : State M) → (Ok answer, after) ≡ steps.control before i c taken status
      → after.living j ≡ Some x → InOrder (call_of_active call_of.Command i (active_beside kinds before (before.living i)) j) after
  in_control i c taken status answer after e lives =
      let y = some_there (before.living i) (there_is (not (is_instance_number i)) (is_none (before.living i)) (not taken) before after _ answer e) in
      let next = ap (λ (o : Outcome (State M) Status). o.1) (granted before (control_refusal before i taken) _ answer after e) in
      in_turn i y.0 (record y.0 { history = history.Control c ∷ y.0.history }) call_of.Command Commanded y.1 refl after
      (next ∙ ap (λ (l : Option (Living M)). controlled before i l c) y.1) lives

pub in_order : {M : Type 0} (kinds : Meaning M) (before after : State M) (call : Call M) (j : ℕ) (x : Living M)
    → Does kinds before call after → ActiveLive before → after.living j ≡ Some x
    → stage_by (stage_of before j (before.living j)) (calls_made kinds before call after j) ≡ Some (stage_of after j (after.living j))
in_order kinds before after (Create i kind g p (Ok done)) j x does live lives =
    let empty = none_there (before.living i) (free (not (is_instance_number i && is_group_number g)) (is_some (before.living i)) before after _ done does.outcome) in
    in_memory kinds before live j x i kind g p does.table done empty after (granted before (create_refusal before i g) _ done after does.outcome) lives
in_order kinds before after (Create i kind g p (Err e)) j x does live lives = unchanged kinds before live j x after (refused_call kinds before after (Create i kind g p (Err e)) e does refl)
in_order kinds before after (Control i c (Ok status)) j x does live lives = in_control kinds before live j x i c does.taken does.status status after does.outcome lives
in_order kinds before after (Control i c (Err e)) j x does live lives = unchanged kinds before live j x after (refused_call kinds before after (Control i c (Err e)) e does refl)
in_order kinds before after (Process i block out) j x does live lives = in_block kinds before live j x i block does.instance does.there after does.outcome lives
in_order {M = M} kinds before after (Delete i (Ok done)) j x does live lives =
    in_deletion kinds before live j x i (before.living i) refl after
    (ap (λ (o : Outcome (State M) (Unit {0})). o.1) (granted before (instance_refusal before i) _ done after does)) lives
in_order kinds before after (Delete i (Err e)) j x does live lives = unchanged kinds before live j x after (refused_call kinds before after (Delete i (Err e)) e does refl)
in_order {M = M} kinds before after (Release g (Ok was)) j x does live lives =
    in_release kinds before live j x g after (ap (λ (o : Outcome (State M) Bool). o.1) (granted before (group_refusal before g) _ was after does)) lives
in_order kinds before after (Release g (Err e)) j x does live lives = unchanged kinds before live j x after (refused_call kinds before after (Release g (Err e)) e does refl)
in_order {M = M} kinds before after (Step space moved) j x does live lives =
    in_step kinds before live j x space (next_block (blocks_in before.map space)) after (ap (λ (o : Bool × State M). o.1) does) lives
in_order {M = M} kinds before after (Compact space count) j x does live lives =
    as_it_was kinds before live j x (calls_made kinds before (Compact space count) after j) after (ap (λ (o : ℕ × State M). o.1.living) does) (ap (λ (o : ℕ × State M). o.1.activity) does) lives
    (moves_all kinds before j _ (unpacked_behind 0 (blocks_in before.map space)) (is_born (before.activity x.group).active j))
in_order {M = M} kinds before after (Stat g (Ok activity)) j x does live lives =
    unchanged kinds before live j x after (ap (λ (o : Outcome (State M) Activity). o.1) (granted before (group_refusal before g) _ activity after does))
in_order kinds before after (Stat g (Err e)) j x does live lives = unchanged kinds before live j x after (refused_call kinds before after (Stat g (Err e)) e does refl)
in_order kinds before after (Map space blocks) j x does live lives = unchanged kinds before live j x after does.1
in_order kinds before after (Lives i answer) j x does live lives = unchanged kinds before live j x after does.1
in_order kinds before after (Copied answer) j x does live lives = unchanged kinds before live j x after does.1
