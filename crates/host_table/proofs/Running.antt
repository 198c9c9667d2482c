-- The active member of a group is given samples where it stands.
use Rattle.std.proofs.Common.{◌≡◌, ◌<◌, ℕ, ℤ, length, inl, inr, List, [], ◌∷◌, ◌++◌, set, Option, Some, None, sym, ◌∙◌, refl, ap, subst}
use Rattle.std.specs.Prelude.{slice_index_or, IfSome}
use Rattle.std.proofs.lemmas.Bool.Decides.{eqb_tells}
use Rattle.ialg.specs.History.{Ctl, with_samples}
use Rattle.ialg.specs.Log.{Log, fed}
use Rattle.ialg.specs.Meaning.{Status}
use Rattle.record_loans.specs.Pieces.{SamePieces}
use Rattle.scratch_group.specs.Blocks.{SameGroup}
use Rattle.std.proofs.lemmas.Option.{same_Some, none-some}
use Rattle.ialg.specs.Laws.{Laws}
use Rattle.scratch_group.specs.declared.group.Group.{Group}
use Rattle.lifecycle.specs.declared.active.Active.{Active}
use Rattle.lifecycle.specs.Keeping.{TellsOutput as TellsItsOutput}
use Rattle.lifecycle.specs.States.{Accepts, ActiveRefines, IsLawful, SameInstance, SameOnce, all_outputs, status_after}
use Rattle.lifecycle.specs.declared.instance.Inst.{Inst}
use Rattle.lifecycle.specs.declared.idle.Idle.{Idle}
use Rattle.lifecycle.specs.declared.instance.Inst.TheVariants.{Idling, Running}
use Rattle.host_shared.specs.declared.locations.Locations.{Locations}
use Rattle.host_shared.specs.Locations.{shared_at}
use Rattle.host_shared.specs.Owners.{with_pieces_of}
use Rattle.host_table.specs.declared.member.Member.{Member}
use Rattle.host_table.specs.Table.{slot_at, group_at, instance_of, activity_at, ArePoisoned, IsActiveAt, TablesOk}
use Rattle.host_table.specs.Refinement.{SlotRefines}
use Rattle.host_table.specs.Steps.{active_beside, controlled, given, AreConsistent, AreKept, GivesOut, Steps, TellsOutput}
use Rattle.host_table.specs.View.{View}
use Rattle.lifecycle.specs.Turns.{CanBeLent, ControlledSharing, RanSharing}
use Rattle.lifecycle.proofs.Groups.{same_blocks}
use Rattle.host_table.proofs.Housing.{lawful_before}
use Rattle.host_table.proofs.Changes.{same_tables, active_inside, group_inside, read_slot, read_ok_group, once_inside, owners_of_slot, known_active, kept_in_slot, fits_in_slot}
use Rattle.host_table.proofs.Activities.{activity_stays}
use Rattle.host_table.proofs.Stepping.{Change, tables, ok_in, steps_after_step, steps_logged, steps_told, touched_stays, turned_active}

-- where the tables were opened: the instance in the slot, which is active, and its group
pub record IsThere {M : Type 0} (instances : List (Option (Member M))) (sharing : List Locations) (groups : List Group) (i : ℕ) (m : Member M) (s : Active M) (y : Group) : Type 0 where
  pub ok : TablesOk instances sharing groups
  pub active : IsActiveAt instances i
  pub in_slot : slot_at instances i ≡ Some m
  pub running : m.inst ≡ Running s
  pub group : group_at groups m.group ≡ y

pub opened : {M : Type 0} {instances : List (Option (Member M))} {sharing : List Locations} {groups : List Group} {t : View M} {i : ℕ} {r : Option (Member M)} {m : Member M} {s : Active M} {y : Group}
    → tables instances sharing groups ≡ t → AreConsistent t → IsActiveAt t.instances i
    → r ≡ slice_index_or instances i r → r ≡ Some m → m.inst ≡ Running s → y ≡ slice_index_or groups m.group y
    → IsThere instances sharing groups i m s y
opened {instances} {sharing} {groups} {i} {r} {m} {y} view consistent active read is running group =
    let ok = ok_in view consistent in
    let here : IsActiveAt instances i = subst (λ x. IsActiveAt x.instances i) (sym view) active in
    let in_slot = read_slot instances i _ here r read ∙ is in
    record {
      ok = ok;
      active = here;
      in_slot = in_slot;
      running = running;
      group = read_ok_group instances sharing groups ok m.group (ok.group_range i m in_slot) y group;
    }

-- an active instance is in the table, its slot isn't empty, and it isn't idle; its group is in the table too
module _ {M : Type 0} {instances : List (Option (Member M))} {sharing : List Locations} {groups : List Group} {t : View M} (i : ℕ)
    (view : tables instances sharing groups ≡ t) (active : IsActiveAt t.instances i) where
  here : IsActiveAt instances i
  here = subst (λ x. IsActiveAt x.instances i) (sym view) active

  pub active_within : i < length instances
  active_within = active_inside instances i _ here

  module _ {r : Option (Member M)} (read : r ≡ slice_index_or instances i r) where
    pub not_empty : r ≡ None → ⊥
    not_empty is = none-some _ (rw (read_slot instances i _ here r read ∙ is) at here)

    pub not_idle : {m : Member M} {s : Idle M} → r ≡ Some m → m.inst ≡ Idling s → ⊥
    not_idle is idle = none-some _ (rw (read_slot instances i _ here r read ∙ is, idle) at here)

    pub group_within : {m : Member M} → AreConsistent t → r ≡ Some m → m.group < length groups
    group_within {m} consistent is =
        let ok = ok_in view consistent in
        group_inside instances sharing groups ok m.group (ok.group_range i m (read_slot instances i _ here r read ∙ is))

-- the same of tables whose slot alone was looked up
pub found : {M : Type 0} {instances : List (Option (Member M))} {sharing : List Locations} {groups : List Group} {i : ℕ} {m : Member M} {s : Active M}
    → TablesOk instances sharing groups → slot_at instances i ≡ Some m → m.inst ≡ Running s → IsThere instances sharing groups i m s (group_at groups m.group)
found ok in_slot running = record { ok = ok; active = rw (in_slot, running) refl; in_slot = in_slot; running = running; group = refl }

module _ {M : Type 0} {instances : List (Option (Member M))} {sharing : List Locations} {groups : List Group} {i : ℕ} {m : Member M} {s : Active M} {y : Group}
    (there : IsThere instances sharing groups i m s y) where
  pub can_be_lent : CanBeLent s.instance sharing i y
  can_be_lent = record {
    number = once_inside _ _ _ there.ok i _ there.in_slot;
    owners = owners_of_slot _ _ _ there.ok _ _ there.in_slot;
    fits = fits_in_slot _ there.ok there.in_slot there.running refl refl there.group;
  }

  known : (group_at groups m.group).active ≡ Some i
  known = known_active _ _ _ there.ok i _ there.in_slot there.active

  alone : (j : ℕ) → (group_at groups m.group).active ≡ Some j → j ≡ i
  alone j other = same_Some j i (sym other ∙ known)

  now_active : (y' : Group) → y'.active ≡ y.active → y'.active ≡ Some i
  now_active y' same = same ∙ rw there.group at known

  -- it works in the same scratch memory still, and was lent its records
  change : (s' : Active M) (sharing' : List Locations) (y' : Group) → SameInstance s.instance s'.instance → SamePieces (shared_at sharing i) (shared_at sharing' i)
      → SameOnce s.instance.table (shared_at sharing i) (shared_at sharing' i) → SameGroup y y' → Change instances sharing groups i m.group m (Running s') (shared_at sharing' i) y'
  change s' sharing' y' same pieces written group = record {
    ok = there.ok;
    in_slot = there.in_slot;
    of_group = refl;
    alone = alone;
    now = now_active y' group.active;
    same = rw there.running same;
    pieces = pieces;
    written = rw there.running written;
    blocks = λ space. rw there.group (same_blocks _ _ group space);
  }

  module _ {laws : Laws M} {input out : List ℤ} (s' : Active M) (sharing' : List Locations) (y' : Group) (did : RanSharing laws i input out s s' sharing sharing' y y') where
    pub ran_steps : (w : Option ℤ) → ArePoisoned w groups
        → Steps laws w (tables instances sharing groups) (tables (set instances i (Some (record { group = m.group; inst = Running s' }))) (with_pieces_of sharing i (shared_at sharing' i)) (set groups m.group y'))
        (activity_at groups) (given i input)
    ran_steps w poisoned =
        steps_after_step (change s' sharing' y' did.same did.pieces did.written did.group) poisoned (λ e. absurd (none-some _ (sym e ∙ now_active y' did.group.active)))
        (activity_stays (activity_at groups) m.group _ (now_active y' did.group.active ∙ sym known) (rw there.group did.group.activations))
        _ (λ histories before. did.keeps w (histories i) (rw (there.group, there.running) at before))

    pub ran_gives : (w : Option ℤ) → GivesOut laws w (tables instances sharing groups) i input out
    ran_gives w histories keeps k at lawful =
        let same : m ≡ k = same_Some _ _ (sym there.in_slot ∙ at) in
        let inst : k.inst ≡ Running s = ap (λ q. q.inst) (sym same) ∙ there.running in
        let kept = kept_in_slot _ _ _ _ there.in_slot there.running refl there.group laws w histories keeps in
        rw inst (did.output w (histories i) (rw inst at lawful) kept)

  module _ {laws : Laws M} {c : Ctl} {answer : Status} (s' : Active M) (sharing' : List Locations) (y' : Group) (did : ControlledSharing laws i c answer s s' sharing sharing' y y')
      (w : Option ℤ) (k : Member M) (at : slot_at instances i ≡ Some k) where
    is_running : k.inst ≡ Running s
    is_running = ap (λ q. q.inst) (sym (same_Some _ _ (sym there.in_slot ∙ at))) ∙ there.running

    pub controlled_steps : ArePoisoned w groups → (IsLawful laws.meaning (instance_of k.inst) w → Accepts laws.meaning (instance_of k.inst) c)
        → Steps laws w (tables instances sharing groups) (tables (set instances i (Some (record { group = m.group; inst = Running s' }))) (with_pieces_of sharing i (shared_at sharing' i)) (set groups m.group y'))
        (activity_at groups) (controlled i c)
    controlled_steps poisoned accepts =
        steps_after_step (change s' sharing' y' did.same did.pieces did.written did.group) poisoned (λ e. absurd (none-some _ (sym e ∙ now_active y' did.group.active)))
        (activity_stays (activity_at groups) m.group _ (now_active y' did.group.active ∙ sym known) (rw there.group did.group.activations))
        _ (λ histories before lawful.
        did.keeps w (histories i) (rw is_running at accepts (lawful_before laws.meaning s.instance s'.instance w did.same lawful)) (rw (there.group, there.running) at before) lawful)

    pub controlled_answers : (histories : ℕ → Log) → IsLawful laws.meaning (instance_of k.inst) w → Accepts laws.meaning (instance_of k.inst) c
        → AreKept laws w (tables instances sharing groups) histories → answer ≡ status_after laws.meaning (instance_of k.inst) (histories i).history c
    controlled_answers histories lawful accepts keeps =
        let kept = kept_in_slot _ _ _ _ there.in_slot there.running refl there.group laws w histories keeps in
        rw is_running (did.status w (histories i) (rw is_running at lawful) (rw is_running at accepts) kept)

  -- its sample was told by reading alone
  pub told_there : (laws : Laws M) (x : ℤ) (told : Option ℤ) → IfSome told (TellsItsOutput laws s.instance (shared_at sharing i) x)
      → IfSome told (TellsOutput laws (tables instances sharing groups) i x)
  told_there laws x None did = tt
  told_there laws x (Some told) did =
      let fits = can_be_lent.fits in
      let active : (w : Option ℤ) (histories : ℕ → Log) → AreKept laws w (tables instances sharing groups) histories → ActiveRefines laws s.instance w (shared_at sharing i) y (histories i) =
      λ w histories kept. kept_in_slot _ _ _ _ there.in_slot there.running refl there.group laws w histories kept in
      let here : (w : Option ℤ) (l : Log) → ActiveRefines laws s.instance w (shared_at sharing i) y l → SlotRefines laws w (slot_at instances i) (shared_at sharing i) groups l =
      λ w l refines. rw there.in_slot (rw (there.running, there.group) refines) in
      record {
        living = rw there.in_slot refl;
        step = λ w ready.
            let known = there.ok.active_known _ _ there.active in
            steps_logged {first = given i (x ∷ [])} (λ histories. ap (given i (x ∷ [])) (turned_active (active_beside (tables instances sharing groups) i) i histories known))
            (steps_told (touched_stays (activity_at groups) _ i known) (record {
              ok = there.ok;
              poisoned = ready.poisoned;
              same = same_tables instances sharing groups;
              activity = λ k. refl;
              keeps = λ histories kept j.
                  elim (eqb_tells j i) [
                    | inl e ↦ rw (e.0, e.1) (here w (fed (histories i) (x ∷ [])) (did.keeps y fits w (histories i) (active w histories kept)))
                    | inr e ↦ rw e.0 (kept j)
                  ];
            }));
        output = λ w histories kept k at lawful.
            let same : m ≡ k = same_Some _ _ (sym there.in_slot ∙ at) in
            let inst : k.inst ≡ Running s = ap (λ q. q.inst) (sym same) ∙ there.running in
            subst
            (λ (n : Inst M). all_outputs laws.meaning (instance_of n) (with_samples (histories i).history (x ∷ [])) ≡ all_outputs laws.meaning (instance_of n) (histories i).history ++ (told ∷ []))
            (sym inst) (did.output y fits w (histories i) (rw inst at lawful) (active w histories kept));
      }
