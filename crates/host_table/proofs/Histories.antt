-- Logs of which one was replaced.
use Rattle.std.proofs.Common.{ap, List, ℤ, ◌≡◌, ◌≢◌, ◌≤◌, ◌+◌, ◌&&◌, ℕ, suc, true, false, Bool, Option, Some, None, inl, inr, refl, sym, ◌∙◌, arith}
use Rattle.std.specs.Prelude.{nat_eq, nat_lt, if◌then◌else◌}
use Rattle.std.specs.Option.{option_eq}
use Rattle.std.proofs.lemmas.Bool.Decides.{eqb_tells, leb_tells}
use Rattle.ialg.specs.Log.{Log, Called, called, fed, Activate, Deactivate, Moved}
use Rattle.host_table.specs.Refinement.{with_log}
use Rattle.host_table.specs.declared.member.Member.{Member}
use Rattle.host_table.specs.Table.{slot_at, is_member_of}
use Rattle.host_table.specs.Frames.{IsSameMember}
use Rattle.host_table.specs.View.{View}
use Rattle.host_table.specs.Steps.{called_at, given, rested, turned, told_at, told_below}

pub history_here : (histories : ℕ → Log) (i : ℕ) (h : Log) → with_log histories i h i ≡ h
history_here histories i h =
    elim (eqb_tells i i) [
      | inl e ↦ rw e.0 refl
      | inr e ↦ absurd (e.1 refl)
    ]

pub history_there : (histories : ℕ → Log) (i j : ℕ) (h : Log) → j ≢ i → with_log histories i h j ≡ histories j
history_there histories i j h apart =
    elim (eqb_tells j i) [
      | inl e ↦ absurd (apart e.1)
      | inr e ↦ rw e.0 refl
    ]

-- a call gives nothing
pub given_called : (i : ℕ) (call : Called) (histories : ℕ → Log) (j : ℕ) → (called_at i call histories j).history ≡ (histories j).history
given_called i call histories j =
    elim (eqb_tells j i) [
      | inl e ↦ rw (e.0, e.1) refl
      | inr e ↦ rw e.0 refl
    ]

pub given_rested : (active : Option ℕ) (histories : ℕ → Log) (j : ℕ) → (rested active histories j).history ≡ (histories j).history
given_rested None histories j = refl
given_rested (Some i) histories j = given_called i Deactivate histories j

turned_by : (is : Bool) (i : ℕ) (active : Option ℕ) (histories : ℕ → Log) (j : ℕ) → option_eq nat_eq active (Some i) ≡ is
    → (turned i active histories j).history ≡ (histories j).history
turned_by true i active histories j e = rw e refl
turned_by false i active histories j e = rw e (given_called i Activate (rested active histories) j ∙ given_rested active histories j)

pub given_turned : (i : ℕ) (active : Option ℕ) (histories : ℕ → Log) (j : ℕ) → (turned i active histories j).history ≡ (histories j).history
given_turned i active histories j = turned_by (option_eq nat_eq active (Some i)) i active histories j refl

-- an instance is activated and given samples at once
pub given_at_once : (i : ℕ) (input : List ℤ) (histories : ℕ → Log) (j : ℕ)
    → with_log histories i (fed (called Activate (histories i)) input) j ≡ given i input (called_at i Activate histories) j
given_at_once i input histories j =
    elim (eqb_tells j i) [
      | inl e ↦ rw e.0 (ap (λ (l : Log). fed l input) (sym (history_here histories i (called Activate (histories i)))))
      | inr e ↦ rw e.0 refl
    ]

-- ---- members are told of a move, one after the other

member_stays : {M : Type 0} (g : ℕ) (a b : Option (Member M)) → IsSameMember a b → is_member_of g b ≡ is_member_of g a
member_stays g None b e = rw e refl
member_stays g (Some m) None e = absurd e
member_stays g (Some m) (Some n) e = rw e.group refl

lt_more : (j n : ℕ) → j ≢ n → nat_lt j (n + 1) ≡ nat_lt j n
lt_more j n apart =
    elim (leb_tells (suc j) (n + 1)) [
      | inl e ↦ elim (leb_tells (suc j) n) [
        | inl f ↦ e.0 ∙ sym f.0
        | inr f ↦ absurd (apart (let a = e.1 in let b = f.1 in omega arith))
      ]
      | inr e ↦ elim (leb_tells (suc j) n) [
        | inl f ↦ absurd (let a = e.1 in let b = f.1 in omega arith)
        | inr f ↦ e.0 ∙ sym f.0
      ]
    ]

lt_next : (n : ℕ) → nat_lt n (n + 1) ≡ true
lt_next n = elim (leb_tells (suc n) (n + 1)) [ inl e ↦ e.0 | inr e ↦ absurd (let a = e.1 in omega arith) ]

lt_none : (n k : ℕ) → k ≤ n → nat_lt n k ≡ false
lt_none n k b = elim (leb_tells (suc n) k) [ inl e ↦ absurd (let a = e.1 in omega arith) | inr e ↦ e.0 ]

and_false : (b : Bool) → (b && false) ≡ false
and_false true = refl
and_false false = refl

and_true : (b : Bool) → (b && true) ≡ b
and_true true = refl
and_true false = refl

module _ {M : Type 0} (g : ℕ) (t u : View M) (histories : ℕ → Log) where
  -- nobody yet
  pub told_none : (j : ℕ) → histories j ≡ told_below g 0 t histories j
  told_none j = rw (lt_none j 0 (omega arith), and_false (is_member_of g (slot_at t.instances j))) refl

  -- instance n is no member
  skipped : (n j : ℕ) → is_member_of g (slot_at t.instances n) ≡ false → told_below g n t histories j ≡ told_below g (n + 1) t histories j
  skipped n j none =
      elim (eqb_tells j n) [
        | inl e ↦ rw (e.1, none) refl
        | inr e ↦ rw (lt_more j n e.1) refl
      ]

  -- or it is one, and is told
  told_one : (n j : ℕ) → is_member_of g (slot_at t.instances n) ≡ true → called_at n Moved (told_below g n t histories) j ≡ told_below g (n + 1) t histories j
  told_one n j some =
      elim (eqb_tells j n) [
        | inl e ↦ rw (e.0, e.1, some, lt_next n, lt_none n n (omega arith)) refl
        | inr e ↦ rw (e.0, lt_more j n e.1) refl
      ]

  told_by : (b : Bool) (n j : ℕ) → is_member_of g (slot_at t.instances n) ≡ b → (if b then called_at n Moved (told_below g n t histories) else told_below g n t histories) j ≡ told_below g (n + 1) t histories j
  told_by true n j e = told_one n j e
  told_by false n j e = skipped n j e

  pub told_more : ((i : ℕ) → IsSameMember (slot_at t.instances i) (slot_at u.instances i)) → (n j : ℕ)
      → told_at g n u (told_below g n t histories) j ≡ told_below g (n + 1) t histories j
  told_more same n j = rw (member_stays g (slot_at t.instances n) (slot_at u.instances n) (same n)) (told_by (is_member_of g (slot_at t.instances n)) n j refl)
