-- An instance is deactivated, where it is active.
use Rattle.std.proofs.Common.{◌≡◌, ◌<◌, ℕ, ℤ, Option, Some, None, refl, sym, ◌∙◌, ap, subst}
use Rattle.std.specs.Prelude.{IsSome}
use Rattle.std.proofs.lemmas.Option.{same_Some, none-some}
use Rattle.mem_rec.specs.declared.TheConstants.{GROUPS}
use Rattle.ialg.specs.Log.{Log}
use Rattle.ialg.specs.Laws.{Laws}
use Rattle.lifecycle.specs.declared.instance.Inst.{Inst}
use Rattle.lifecycle.specs.declared.instance.Inst.TheVariants.{Idling, Running}
use Rattle.host_table.specs.declared.member.Member.{Member}
use Rattle.host_table.specs.Table.{slot_at, group_at, group_of, active_in, slot_active_in, activity_at, deactivated_by, deactivated_in, IsIdleAt}
use Rattle.host_table.specs.Frames.{SameSlot}
use Rattle.host_table.specs.View.{View}
use Rattle.host_table.specs.Steps.{active_beside, rested, rested_if, AreConsistent, Deactivates, DeactivatesIn, Ready}
use Rattle.host_table.proofs.Activities.{activity_stays, none_active_after, not_active}
use Rattle.host_table.proofs.Changes.{member_of, never_active, same_tables}
use Rattle.host_table.proofs.Stepping.{is_active_there, rested_known, rested_if_known, steps_logged, steps_told}

running_in : {M : Type 0} (k : ℕ) (inst : Inst M) (g : ℕ) → active_in k inst ≡ Some g → k ≡ g
running_in k (Idling s) g active = absurd (none-some _ active)
running_in k (Running s) g active = same_Some _ _ active

active_member : {M : Type 0} (x : Option (Member M)) (g : ℕ) → slot_active_in x ≡ Some g → (m : Member M) × ((x ≡ Some m) × (m.group ≡ g))
active_member None g active = absurd (none-some _ active)
active_member (Some m) g active = (m, (refl, running_in m.group m.inst g active))

-- the group of an active instance
pub active_range : {M : Type 0} {t : View M} (g i : ℕ) → AreConsistent t → slot_active_in (slot_at t.instances i) ≡ Some g → g < GROUPS
active_range {t = t} g i ok active =
    let m = active_member (slot_at t.instances i) g active in
    subst (λ k. k < GROUPS) m.1.1 (ok.group_range i m.0 m.1.0)

active_group : {M : Type 0} (x : Option (Member M)) (g : ℕ) → slot_active_in x ≡ Some g → group_of x ≡ g
active_group x g active =
    let m = active_member x g active in
    ap group_of m.1.0 ∙ m.1.1

idle_then : {M : Type 0} (x y : Option (Member M)) (g : ℕ) → slot_active_in x ≡ Some g → SameSlot x y → (slot_active_in y ≡ Some g → ⊥) → slot_active_in y ≡ None
idle_then None y g active same never = ap slot_active_in same
idle_then (Some m) None g active same never = refl
idle_then (Some m) (Some n) g active same never =
    let group = same.0 ∙ running_in m.group m.inst g active in
    never_active n.group n.inst (λ there. never (there ∙ ap Some group))

-- the active member of its group was deactivated
module _ {M : Type 0} {laws : Laws M} {w : Option ℤ} {a b : View M} (g i : ℕ) (ok : AreConsistent a) (active : slot_active_in (slot_at a.instances i) ≡ Some g) (step : DeactivatesIn laws w g a b) where
  pub idle_after : IsIdleAt b.instances i
  idle_after =
      idle_then (slot_at a.instances i) (slot_at b.instances i) g active (step.same.slot i)
      (λ there. none-some _ (sym (none_active_after (activity_at a.groups) (activity_at b.groups) g step.activity) ∙ step.ok.active_known g i there))

  told : (k : ℕ) → deactivated_in a.groups g k ≡ deactivated_by a.instances a.groups i k
  told k = rw (active_group (slot_at a.instances i) g active, is_active_there (group_at a.groups g).active i (ok.active_known g i active)) refl

  logged : (histories : ℕ → Log) → rested (activity_at a.groups g).active histories ≡ rested_if i (active_beside a i) histories
  logged histories =
      let known = ok.active_known g i active in
      let same : active_beside a i ≡ Some i = ap (λ (k : ℕ). (activity_at a.groups k).active) (active_group (slot_at a.instances i) g active) ∙ known in
      sym (rested_known (activity_at a.groups g).active i histories known) ∙ sym (rested_if_known (active_beside a i) i histories same)

  pub deactivates : Deactivates laws w i a b
  deactivates = steps_logged logged (steps_told told step)

-- an idle instance is left as it is
pub idle_stays : {M : Type 0} {laws : Laws M} {w : Option ℤ} {t : View M} (i : ℕ) → IsSome (slot_at t.instances i) → Ready w t → IsIdleAt t.instances i → Deactivates laws w i t t
idle_stays {t = t} i living ready idle =
    let g = group_of (slot_at t.instances i) in
    let m = member_of (slot_at t.instances i) living in
    let range = subst (λ k. k < GROUPS) (sym (ap group_of m.1)) (ready.ok.group_range i m.0 m.1) in
    let other = not_active (group_at t.groups g).active i (λ active. none-some _ (sym idle ∙ ready.ok.active_there g i range active)) in
    record {
      ok = ready.ok;
      poisoned = ready.poisoned;
      same = same_tables t.instances t.sharing t.groups;
      activity = λ k. rw other (sym (activity_stays (activity_at t.groups) g (activity_at t.groups g) refl refl k));
      keeps = λ histories kept. rw other kept;
    }
