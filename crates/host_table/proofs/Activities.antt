-- Which member of a group is active after a step.
use Rattle.std.proofs.Common.{◌≡◌, ◌<◌, ℕ, ℤ, List, length, set, get_or-set_same, get_or-set_other, inl, inr, Option, Some, None, false, refl, sym, subst, ◌∙◌, ap}
use Rattle.std.proofs.lemmas.Bool.Decides.{eqb_tells}
use Rattle.std.proofs.lemmas.Option.{none-some}
use Rattle.scratch_group.specs.declared.group.Group.{Group}
use Rattle.std.specs.Prelude.{nat_eq}
use Rattle.std.specs.Option.{option_eq}
use Rattle.host_map.specs.Activity.{count_after, Activity, deactivated, activated, with_at}
use Rattle.scratch_group.specs.Blocks.{BlocksArePoison}
use Rattle.host_table.specs.declared.member.Member.{Member}
use Rattle.host_table.specs.Table.{no_group, group_at, group_of, activity_at, ArePoisoned}
use Rattle.host_table.specs.Frames.{SameSlot, InactiveGroupsStay}

pub same_group_of : {M : Type 0} (a b : Option (Member M)) → SameSlot a b → group_of b ≡ group_of a
same_group_of None b e = ap group_of e
same_group_of (Some m) None e = absurd e
same_group_of (Some m) (Some n) e = e.0

pub not_active : (a : Option ℕ) (i : ℕ) → (a ≡ Some i → ⊥) → option_eq nat_eq a (Some i) ≡ false
not_active None i never = refl
not_active (Some j) i never =
    elim (eqb_tells j i) [
      | inl e ↦ absurd (never (ap Some e.1))
      | inr e ↦ e.0
    ]

-- at the group itself
pub at_group : (old : ℕ → Activity) (g : ℕ) (a : Activity) → with_at old g a g ≡ a
at_group old g a =
    elim (eqb_tells g g) [
      | inl e ↦ rw e.0 refl
      | inr e ↦ absurd (e.1 refl)
    ]

pub none_active_after : (old mid : ℕ → Activity) (g : ℕ) → ((k : ℕ) → mid k ≡ with_at old g (deactivated (old g)) k) → (mid g).active ≡ None
none_active_after old mid g rest = ap (λ (a : Activity). a.active) (rest g ∙ at_group old g (deactivated (old g)))

-- a deactivation and an activation
pub activity_after_activation : (old mid : ℕ → Activity) (g i : ℕ) (new : Activity) → ((k : ℕ) → mid k ≡ with_at old g (deactivated (old g)) k)
    → option_eq nat_eq (old g).active (Some i) ≡ false → new.active ≡ Some i → new.count ≡ count_after (mid g).count (Some i)
    → (k : ℕ) → with_at mid g new k ≡ with_at old g (activated i (old g)) k
activity_after_activation old mid g i new rest idle active count k =
    let counted : (mid g).count ≡ (old g).count = ap (λ (a : Activity). a.count) (rest g ∙ at_group old g (deactivated (old g))) in
    elim (eqb_tells k g) [
      | inl e ↦
          let is : new ≡ record { active = Some i; count = count_after (old g).count (Some i) } =
          ap (λ (a : Option ℕ). let r : Activity = record { active = a; count = new.count } in r) active
          ∙ ap (λ (n : ℕ). let r : Activity = record { active = Some i; count = n } in r) (count ∙ ap (λ n. count_after n (Some i)) counted) in
          rw (e.0, idle) is
      | inr e ↦ rw e.0 (rw e.0 at (rest k))
    ]

-- an activity told by its parts
pub same_activity : (all : ℕ → Activity) (g : ℕ) (a b : Activity) → a.active ≡ b.active → a.count ≡ b.count → (k : ℕ) → with_at all g a k ≡ with_at all g b k
same_activity all g a b active count k =
    ap (λ (x : Activity). with_at all g x k)
    (ap (λ (x : Option ℕ). let r : Activity = record { active = x; count = a.count } in r) active
    ∙ ap (λ (n : ℕ). let r : Activity = record { active = b.active; count = n } in r) count)

-- a group that stays as it is
pub activity_stays : (all : ℕ → Activity) (g : ℕ) (a : Activity) → a.active ≡ (all g).active → a.count ≡ (all g).count → (k : ℕ) → with_at all g a k ≡ all k
activity_stays all g a active count k =
    let is : a ≡ all g =
    ap (λ (x : Option ℕ). let r : Activity = record { active = x; count = a.count } in r) active
    ∙ ap (λ (n : ℕ). let r : Activity = record { active = (all g).active; count = n } in r) count in
    elim (eqb_tells k g) [
      | inl e ↦ rw (e.0, e.1) is
      | inr e ↦ rw e.0 refl
    ]

pub group_change : (groups : List Group) (g : ℕ) (y : Group) → g < length groups → (k : ℕ)
    → activity_at (set groups g y) k ≡ with_at (activity_at groups) g (record { active = y.active; count = y.activations }) k
group_change groups g y inside k =
    elim (eqb_tells k g) [
      | inl e ↦
          let equal : activity_at (set groups g y) g ≡ record { active = y.active; count = y.activations } =
          ap (λ (q : Group). let r : Activity = record { active = q.active; count = q.activations } in r) (get_or-set_same groups g y no_group inside) in
          rw (e.0, e.1) equal
      | inr e ↦ rw e.0 (ap (λ (q : Group). let r : Activity = record { active = q.active; count = q.activations } in r) (get_or-set_other groups g k y no_group e.1))
    ]

-- another group in the place of one with an active member
pub inactive_beside : (groups : List Group) (g i : ℕ) (y : Group) → (group_at groups g).active ≡ Some i → InactiveGroupsStay groups (set groups g y)
inactive_beside groups g i y active k none =
    get_or-set_other groups g k y no_group (λ e. none-some _ (sym none ∙ ap (λ j. (group_at groups j).active) e ∙ active))

-- of two changes in turn
pub inactive_then : (groups mid groups' : List Group) → InactiveGroupsStay groups mid → InactiveGroupsStay mid groups' → InactiveGroupsStay groups groups'
inactive_then groups mid groups' first second g none = second g (ap (λ (y : Group). y.active) (first g none) ∙ none) ∙ first g none

-- their blocks hold the poison word still
pub poisoned_stays : (w : Option ℤ) (groups groups' : List Group) → InactiveGroupsStay groups groups' → ((k : ℕ) → activity_at groups' k ≡ activity_at groups k)
    → ArePoisoned w groups → ArePoisoned w groups'
poisoned_stays w groups groups' stay activity before g below none =
    let was : (group_at groups g).active ≡ None = sym (ap (λ (a : Activity). a.active) (activity g)) ∙ none in
    subst (BlocksArePoison w) (sym (stay g was)) (before g below was)
