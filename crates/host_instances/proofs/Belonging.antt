-- Whether a group has members.
use Rattle.std.proofs.Common.{◌≡◌, ◌≢◌, ℕ, zero, suc, ◌<◌, inl, inr, true, false, List, [], ◌∷◌, length, Option, Some, None, refl, sym, ◌∙◌, ap, arith}
use Rattle.std.proofs.lemmas.Option.{none-some, same_Some}
use Rattle.std.proofs.lemmas.Bool.{eq-eqb, true≢false}
use Rattle.std.proofs.lemmas.Bool.Decides.{eqb_tells}
use Rattle.std.proofs.lemmas.List.Folds.{list_any_at}
use Rattle.relocate.proofs.RangeTests.{both_false, or_false}
use Rattle.lifecycle.specs.declared.instance.Inst.{Inst}
use Rattle.lifecycle.specs.declared.instance.Inst.TheVariants.{Idling, Running}
use Rattle.host_table.specs.declared.member.Member.{Member}
use Rattle.host_table.specs.Table.{slot_at, group_of, is_member_of, active_in, slot_active_in}
use Rattle.host_instances.specs.Ends.{has_members}

-- no slot below n has a member of the group
abbrev pub NoneBelow : {M : Type 0} → List (Option (Member M)) → ℕ → ℕ → Type 0
NoneBelow instances g n = (j : ℕ) → j < n → is_member_of g (slot_at instances j) ≡ false

pub some_left : {M : Type 0} (instances : List (Option (Member M))) (g i : ℕ) → i < length instances → is_member_of g (slot_at instances i) ≡ true → has_members instances g ≡ true
some_left instances g i below is = list_any_at (is_member_of g) instances i None below is

pub none_left : {M : Type 0} (instances : List (Option (Member M))) (g : ℕ) → NoneBelow instances g (length instances) → has_members instances g ≡ false
none_left [] g none = refl
none_left (s ∷ instances) g none =
    or_false (is_member_of g s) (has_members instances g) (none 0 (omega arith))
    (none_left instances g (λ j below. none (suc j) (let less : suc j < suc (length instances) = omega (arith, below) in less)))

pub none_there : {M : Type 0} (instances : List (Option (Member M))) (g : ℕ) → has_members instances g ≡ false → (j : ℕ) → is_member_of g (slot_at instances j) ≡ false
none_there [] g none j = refl
none_there (s ∷ instances) g none zero = (both_false (is_member_of g s) (has_members instances g) none).0
none_there (s ∷ instances) g none (suc j) = none_there instances g (both_false (is_member_of g s) (has_members instances g) none).1 j

-- an instance is a member of no other group than its own
pub not_of : {M : Type 0} (slot : Option (Member M)) (k : ℕ) → k ≢ group_of slot → is_member_of k slot ≡ false
not_of None k apart = refl
not_of (Some m) k apart = elim (eqb_tells m.group k) [ inl e ↦ absurd (apart (sym e.1)) | inr e ↦ e.0 ]

-- where a group has no members, none is in the slot
pub other_member : {M : Type 0} (slot : Option (Member M)) (g : ℕ) (m : Member M) → slot ≡ Some m → is_member_of g slot ≡ false → m.group ≢ g
other_member None g m at none = absurd (none-some _ at)
other_member (Some n) g m at none = λ e. true≢false (sym (eq-eqb n.group g (ap (λ (q : Member _). q.group) (same_Some n m at) ∙ e)) ∙ none)

active_of : {M : Type 0} (k g : ℕ) (inst : Inst M) → active_in k inst ≡ Some g → k ≡ g
active_of k g (Idling s) e = absurd (none-some _ e)
active_of k g (Running s) e = same_Some k g e

-- and none is active
pub none_active : {M : Type 0} (slot : Option (Member M)) (g : ℕ) → is_member_of g slot ≡ false → slot_active_in slot ≡ Some g → ⊥
none_active None g none e = none-some _ e
none_active (Some m) g none e = true≢false (sym (eq-eqb m.group g (active_of m.group g m.inst e)) ∙ none)
