-- Instances get algMoved, one after the other.
use Rattle.std.proofs.Common.{◌≡◌, ℕ, ℤ, ◌+◌, ◌<◌, ◌≤◌, ◌&&◌, Bool, true, false, inl, inr, length, Option, Some, None, is_some, refl, sym, ◌∙◌, ap, subst, arith}
use Rattle.std.specs.Prelude.{if◌then◌else◌}
use Rattle.std.proofs.lemmas.Bool.{lt-ltb, le-ltb}
use Rattle.std.proofs.lemmas.Bool.Decides.{eqb_tells}
use Rattle.mem_rec.specs.declared.TheConstants.{INSTANCES}
use Rattle.ialg.specs.Log.{Log, Moved, called}
use Rattle.ialg.specs.Laws.{Laws}
use Rattle.host_shared.specs.Locations.{shared_at}
use Rattle.host_table.specs.declared.member.Member.{Member}
use Rattle.host_table.specs.Table.{slot_at}
use Rattle.host_table.specs.Refinement.{SlotRefines}
use Rattle.host_table.specs.Steps.{AreKept, called_at}
use Rattle.host_table.specs.View.{View}
use Rattle.host_table.proofs.Changes.{slot_in}
use Rattle.host_table.proofs.HistoriesGo.{told_by}
use Rattle.host_moves.specs.Moves.{told_until, told_where}
use Rattle.host_moves.proofs.Sharing.{ltb_tells}

and_false : (b : Bool) → (b && false) ≡ false
and_false true = refl
and_false false = refl

and_true : (b : Bool) → (b && true) ≡ b
and_true true = refl
and_true false = refl

module _ (who : ℕ → Bool) (logs : ℕ → Log) where
  -- nobody yet
  pub until_none : (j : ℕ) → logs j ≡ told_until who 0 logs j
  until_none j = rw (le-ltb j 0 (omega arith), and_false (who j)) refl

  -- one more
  pub until_one : (n j : ℕ) → who n ≡ true → called_at n Moved (told_until who n logs) j ≡ told_until who (n + 1) logs j
  until_one n j some =
      elim (eqb_tells j n) [
        | inl e ↦ rw (e.0, e.1, some, lt-ltb n (n + 1) (omega arith), le-ltb n n (omega arith)) refl
        | inr e ↦ rw e.0 (elim (ltb_tells j n) [
          | inl f ↦ rw (f.0, lt-ltb j (n + 1) (omega (arith, f.1))) refl
          | inr f ↦ rw (f.0, le-ltb j (n + 1) (omega (arith, f.1, e.1))) refl
        ])
      ]

  -- nobody between
  pub until_past : (n m j : ℕ) → n ≤ m → ((l : ℕ) → n ≤ l → l < m → who l ≡ false) → told_until who n logs j ≡ told_until who m logs j
  until_past n m j behind none =
      elim (ltb_tells j n) [
        | inl e ↦ rw (e.0, lt-ltb j m (omega (arith, e.1, behind))) refl
        | inr e ↦ elim (ltb_tells j m) [
          | inl f ↦ rw (e.0, f.0, none j e.1 f.1) refl
          | inr f ↦ rw (e.0, f.0) refl
        ]
      ]

-- the same logs
pub relogged : {M : Type 0} (laws : Laws M) (w : Option ℤ) (t : View M) (a b : ℕ → Log) → ((j : ℕ) → a j ≡ b j) → AreKept laws w t a → AreKept laws w t b
relogged laws w t a b same kept j = subst (λ (l : Log). SlotRefines laws w (slot_at t.instances j) (shared_at t.sharing j) t.groups l) (same j) (kept j)

-- an empty slot refines any log
pub kept_by_nobody : {M : Type 0} (laws : Laws M) (w : Option ℤ) (t : View M) (i : ℕ) (logs : ℕ → Log) → slot_at t.instances i ≡ None
    → AreKept laws w t logs → AreKept laws w t (called_at i Moved logs)
kept_by_nobody laws w t i logs none kept j =
    elim (eqb_tells j i) [
      | inl e ↦ rw (e.1, none) tt
      | inr e ↦ rw e.0 (kept j)
    ]

-- all were asked
pub until_all : {M : Type 0} (laws : Laws M) (w : Option ℤ) (t : View M) (who : ℕ → Bool) (n : ℕ) (logs : ℕ → Log) → length t.instances ≤ n
    → AreKept laws w t (told_until who n logs) → AreKept laws w t (told_where who logs)
until_all {M} laws w t who n logs all kept j = by_slot (slot_at t.instances j) refl
  where
    by_slot : (slot : Option (Member M)) → slot_at t.instances j ≡ slot → SlotRefines laws w (slot_at t.instances j) (shared_at t.sharing j) t.groups (told_where who logs j)
    by_slot None e = rw e tt
    by_slot (Some m) e =
        let inside = slot_in t.instances j m e in
        rw (lt-ltb j n (omega (arith, inside, all)), and_true (who j)) at (kept j)

-- algMoved leaves the histories
pub given_where : (who : ℕ → Bool) (logs : ℕ → Log) (j : ℕ) → (told_where who logs j).history ≡ (logs j).history
given_where who logs j = told_by (who j) (logs j)
