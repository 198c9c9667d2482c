-- What a call of the tables does, put together of its parts.
use Rattle.std.proofs.Common.{ap, ◌≡◌, ℕ, ℤ, inl, inr, true, false, List, Option, Some, None, set, refl, sym, ◌∙◌, subst}
use Rattle.std.specs.Prelude.{IsSome}
use Rattle.std.proofs.lemmas.Bool.Decides.{eqb_tells}
use Rattle.mem_rec.specs.declared.Space.{Space}
use Rattle.ialg.specs.Log.{Log, Activate, Deactivate}
use Rattle.ialg.specs.Laws.{Laws}
use Rattle.record_loans.specs.declared.pieces.Pieces.{Pieces}
use Rattle.record_loans.specs.Pieces.{SamePieces}
use Rattle.record_loans.specs.Blocks.{IsSameBlock}
use Rattle.scratch_group.specs.declared.group.Group.{Group}
use Rattle.scratch_group.specs.Blocks.{block_in, BlocksArePoison}
use Rattle.lifecycle.specs.declared.instance.Inst.{Inst}
use Rattle.lifecycle.specs.declared.instance.Inst.TheVariants.{Running}
use Rattle.lifecycle.specs.declared.active.Active.{Active}
use Rattle.lifecycle.specs.States.{SameInstance, SameOnce}
use Rattle.host_shared.specs.declared.locations.Locations.{Locations}
use Rattle.host_shared.specs.Locations.{shared_at}
use Rattle.host_shared.specs.Owners.{with_pieces_of}
use Rattle.host_table.specs.declared.member.Member.{Member}
use Rattle.host_table.specs.Table.{slot_at, group_at, instance_of, group_of, active_in, slot_active_in, EachIsHoused, TablesOk, ArePoisoned, activity_at}
use Rattle.std.specs.Prelude.{nat_eq}
use Rattle.std.specs.Option.{option_eq}
use Rattle.host_map.specs.Activity.{Activity, activated, with_at}
use Rattle.host_table.specs.Frames.{SameSlot}
use Rattle.host_table.specs.Refinement.{InstRefines, with_log}
use Rattle.host_table.specs.View.{View}
use Rattle.host_table.specs.Steps.{Stays, Steps, AreKept, unchanged, called_at, rested, rested_if, turned}
use Rattle.host_table.proofs.Activities.{activity_stays}
use Rattle.host_table.proofs.Changes.{tables_then, tables_after_change, ok_after_change, poisoned_after_change, activity_after_change, keeps_after_step, keeps_after_change}

-- the tables of these lists
abbrev pub tables : {M : Type 0} → List (Option (Member M)) → List Locations → List Group → View M
tables instances sharing groups = record { instances = instances; sharing = sharing; groups = groups }

-- what holds of the tables holds of the fields that the code opened
pub ok_in : {M : Type 0} {instances : List (Option (Member M))} {sharing : List Locations} {groups : List Group} {t : View M} → tables instances sharing groups ≡ t → TablesOk t.instances t.sharing t.groups → TablesOk instances sharing groups
ok_in {M = M} is ok = subst (λ (x : View M). TablesOk x.instances x.sharing x.groups) (sym is) ok

-- the parts of equal views
pub same_instances : {M : Type 0} {instances instances' : List (Option (Member M))} {sharing sharing' : List Locations} {groups groups' : List Group} → tables instances sharing groups ≡ tables instances' sharing' groups' → instances ≡ instances'
same_instances {M = M} same = ap (λ (x : View M). x.instances) same

pub same_sharing : {M : Type 0} {instances instances' : List (Option (Member M))} {sharing sharing' : List Locations} {groups groups' : List Group} → tables instances sharing groups ≡ tables instances' sharing' groups' → sharing ≡ sharing'
same_sharing {M = M} same = ap (λ (x : View M). x.sharing) same

pub same_groups : {M : Type 0} {instances instances' : List (Option (Member M))} {sharing sharing' : List Locations} {groups groups' : List Group} → tables instances sharing groups ≡ tables instances' sharing' groups' → groups ≡ groups'
same_groups {M = M} same = ap (λ (x : View M). x.groups) same

-- with lists that are equal
pub steps_to : {M : Type 0} {instances instances' : List (Option (Member M))} {sharing sharing' : List Locations} {groups : List Group} {laws : Laws M} {w : Option ℤ} {old : View M} {activities : ℕ → Activity} {goes : (ℕ → Log) → ℕ → Log}
    → instances ≡ instances' → sharing ≡ sharing' → Steps laws w old (tables instances' sharing' groups) activities goes → Steps laws w old (tables instances sharing groups) activities goes
steps_to same seen steps = rw (same, seen) steps

-- two calls in turn
pub steps_then : {M : Type 0} {laws : Laws M} {w : Option ℤ} {a b c : View M} {first second : ℕ → Activity} {goes then : (ℕ → Log) → ℕ → Log}
    → Steps laws w a b first goes → Steps laws w b c second then → Steps laws w a c second (λ histories. then (goes histories))
steps_then {goes = goes} one two = record {
  ok = two.ok;
  poisoned = two.poisoned;
  same = tables_then one.same two.same;
  activity = two.activity;
  keeps = λ histories kept. two.keeps (goes histories) (one.keeps histories kept);
}

-- the logs told otherwise
pub steps_logged : {M : Type 0} {laws : Laws M} {w : Option ℤ} {a b : View M} {activities : ℕ → Activity} {first second : (ℕ → Log) → ℕ → Log}
    → ((histories : ℕ → Log) → first histories ≡ second histories) → Steps laws w a b activities first → Steps laws w a b activities second
steps_logged {laws = laws} {w = w} {b = b} logged steps = record {
  ok = steps.ok;
  poisoned = steps.poisoned;
  same = steps.same;
  activity = steps.activity;
  keeps = λ histories kept. subst (λ hs. AreKept laws w b hs) (logged histories) (steps.keeps histories kept);
}

-- where this is the active member, it is deactivated
pub rested_known : (active : Option ℕ) (i : ℕ) (histories : ℕ → Log) → active ≡ Some i → called_at i Deactivate histories ≡ rested active histories
rested_known active i histories e = rw e refl

-- where it isn't, it is activated
pub turned_idle : (active : Option ℕ) (i : ℕ) (histories : ℕ → Log) → option_eq nat_eq active (Some i) ≡ false
    → called_at i Activate (rested active histories) ≡ turned i active histories
turned_idle active i histories e = rw e refl

-- the activities told otherwise
pub steps_told : {M : Type 0} {laws : Laws M} {w : Option ℤ} {a b : View M} {first second : ℕ → Activity} {goes : (ℕ → Log) → ℕ → Log}
    → ((k : ℕ) → first k ≡ second k) → Steps laws w a b first goes → Steps laws w a b second goes
steps_told told steps = record { ok = steps.ok; poisoned = steps.poisoned; same = steps.same; activity = λ k. steps.activity k ∙ told k; keeps = steps.keeps }

-- one instance and its group changed, and its pieces were put back at their owners
pub record Change {M : Type 0} (instances : List (Option (Member M))) (sharing : List Locations) (groups : List Group) (i g : ℕ) (m : Member M) (inst : Inst M) (o : Pieces) (y : Group) : Type 0 where
  pub ok : TablesOk instances sharing groups
  pub in_slot : slot_at instances i ≡ Some m
  pub of_group : m.group ≡ g
  pub alone : (j : ℕ) → (group_at groups g).active ≡ Some j → j ≡ i
  pub now : y.active ≡ active_in i inst
  pub same : SameInstance (instance_of m.inst) (instance_of inst)
  pub pieces : SamePieces (shared_at sharing i) o
  pub written : SameOnce (instance_of m.inst).table (shared_at sharing i) o
  pub blocks : (space : Space) → IsSameBlock (block_in (group_at groups g) space) (block_in y space)

module _ {M : Type 0} {instances : List (Option (Member M))} {sharing : List Locations} {groups : List Group} {i g : ℕ} {m : Member M} {inst : Inst M} {o : Pieces} {y : Group}
    (c : Change instances sharing groups i g m inst o y)
    {laws : Laws M} {w : Option ℤ} (poisoned : ArePoisoned w groups) (resting : y.active ≡ None → BlocksArePoison w y) {activities : ℕ → Activity}
    (told : (k : ℕ) → with_at (activity_at groups) g (record { active = y.active; count = y.activations }) k ≡ activities k) where
  -- whatever becomes of the histories
  stepped : (goes : (ℕ → Log) → ℕ → Log)
      → ((histories : ℕ → Log) → AreKept laws w (tables instances sharing groups) histories → AreKept laws w (tables (set instances i (Some (record { group = g; inst = inst }))) (with_pieces_of sharing i o) (set groups g y)) (goes histories))
      → Steps laws w (tables instances sharing groups) (tables (set instances i (Some (record { group = g; inst = inst }))) (with_pieces_of sharing i o) (set groups g y)) activities goes
  stepped goes keeps = record {
    ok = ok_after_change instances sharing groups i g m inst o y c.ok c.in_slot c.of_group c.alone c.now c.same c.pieces c.written c.blocks;
    poisoned = poisoned_after_change EachIsHoused instances sharing groups i g m inst o y c.ok c.in_slot c.of_group c.alone c.now w poisoned resting;
    same = tables_after_change instances sharing groups i g m inst o y c.ok c.in_slot c.of_group c.alone c.now c.same c.pieces c.written c.blocks;
    activity = λ k. activity_after_change EachIsHoused instances sharing groups i g m inst o y c.ok c.in_slot c.of_group c.alone c.now k ∙ told k;
    keeps = keeps;
  }

  -- its state alone
  pub steps_after_change : ((histories : ℕ → Log) → InstRefines laws w m.inst (shared_at sharing i) (group_at groups g) (histories i) → InstRefines laws w inst o y (histories i))
      → Steps laws w (tables instances sharing groups) (tables (set instances i (Some (record { group = g; inst = inst }))) (with_pieces_of sharing i o) (set groups g y)) activities unchanged
  steps_after_change step =
      stepped unchanged
      (λ histories kept. keeps_after_change EachIsHoused instances sharing groups i g m inst o y c.ok c.in_slot c.of_group c.alone c.now c.pieces c.written laws w histories (step histories) kept)

  -- it went on by one step
  pub steps_after_step : (h : (ℕ → Log) → Log)
      → ((histories : ℕ → Log) → InstRefines laws w m.inst (shared_at sharing i) (group_at groups g) (histories i) → InstRefines laws w inst o y (h histories))
      → Steps laws w (tables instances sharing groups) (tables (set instances i (Some (record { group = g; inst = inst }))) (with_pieces_of sharing i o) (set groups g y)) activities (λ histories. with_log histories i (h histories))
  steps_after_step h step =
      stepped (λ histories. with_log histories i (h histories))
      (λ histories kept. keeps_after_step EachIsHoused instances sharing groups i g m inst o y c.ok c.in_slot c.of_group c.alone c.now c.pieces c.written laws w histories (h histories) (step histories) kept)

-- an active instance is active in its group
pub running_there : {M : Type 0} (x : Option (Member M)) (g : ℕ) (s : Active M) → x ≡ Some (record { group = g; inst = Running s }) → slot_active_in x ≡ Some (group_of x)
running_there x g s is = rw is refl

pub is_active_there : (a : Option ℕ) (i : ℕ) → a ≡ Some i → option_eq nat_eq a (Some i) ≡ true
is_active_there a i is =
    elim (eqb_tells i i) [
      | inl e ↦ rw (is, e.0) refl
      | inr e ↦ absurd (e.1 refl)
    ]

-- where this is the active member, it is deactivated
pub rested_if_known : (active : Option ℕ) (i : ℕ) (histories : ℕ → Log) → active ≡ Some i → rested_if i active histories ≡ called_at i Deactivate histories
rested_if_known active i histories e = rw (is_active_there active i e) refl

-- where it is active it isn't called
pub turned_active : (active : Option ℕ) (i : ℕ) (histories : ℕ → Log) → active ≡ Some i → histories ≡ turned i active histories
turned_active active i histories e = rw (is_active_there active i e) refl

-- an active instance that is activated
pub touched_stays : (all : ℕ → Activity) (g i : ℕ) → (all g).active ≡ Some i → (k : ℕ) → all k ≡ with_at all g (activated i (all g)) k
touched_stays all g i active k = rw (is_active_there (all g).active i active) (sym (activity_stays all g (all g) refl refl k))

pub stays_of : {M : Type 0} {laws : Laws M} {w : Option ℤ} {a b : View M} {activities : ℕ → Activity} {goes : (ℕ → Log) → ℕ → Log} → Steps laws w a b activities goes → Stays w a b
stays_of steps = record { ok = steps.ok; poisoned = steps.poisoned; same = steps.same }

-- the tables were opened after a step
pub steps_in : {M : Type 0} {laws : Laws M} {w : Option ℤ} {old q : View M} {activities : ℕ → Activity} {goes : (ℕ → Log) → ℕ → Log} {instances : List (Option (Member M))} {sharing : List Locations} {groups : List Group}
    → tables instances sharing groups ≡ q → Steps laws w old q activities goes → Steps laws w old (tables instances sharing groups) activities goes
steps_in is steps = rw is steps

still_there : {M : Type 0} (x y : Option (Member M)) → IsSome x → SameSlot x y → (m : Member M) × (y ≡ Some m)
still_there None y some same = let bad : false ≡ true = some in cc
still_there (Some n) None some same = absurd same
still_there (Some n) (Some m) some same = (m, refl)

-- an instance is in its slot after a step
pub there_in : {M : Type 0} {laws : Laws M} {w : Option ℤ} {old q : View M} {activities : ℕ → Activity} {goes : (ℕ → Log) → ℕ → Log} {instances : List (Option (Member M))} {sharing : List Locations} {groups : List Group}
    → tables instances sharing groups ≡ q → Steps laws w old q activities goes → (i : ℕ) → IsSome (slot_at old.instances i) → (m : Member M) × (slot_at instances i ≡ Some m)
there_in {old = old} {instances = instances} is steps i some = still_there (slot_at old.instances i) (slot_at instances i) some ((steps_in is steps).same.slot i)
