-- A slot without an active instance is filled or emptied.
use Rattle.std.proofs.Common.{◌≡◌, ◌≢◌, ℕ, ℤ, ◌<◌, inl, inr, List, length, Option, Some, None, set, get_or-set_same, get_or-set_other, sym, ◌∙◌, ap, subst, arith}
use Rattle.std.proofs.lemmas.List.{length-set}
use Rattle.std.proofs.lemmas.Bool.Decides.{eqb_tells}
use Rattle.std.proofs.lemmas.Option.{same_Some}
use Rattle.ialg.specs.Log.{Log}
use Rattle.ialg.specs.Laws.{Laws}
use Rattle.record_loans.specs.declared.pieces.Pieces.{Pieces}
use Rattle.scratch_group.specs.declared.group.Group.{Group}
use Rattle.record_loans.specs.Pieces.{SamePieces}
use Rattle.lifecycle.specs.States.{SameOnce, IsLawful}
use Rattle.mem_rec.specs.declared.TheConstants.{INSTANCES, GROUPS}
use Rattle.host_table.specs.declared.member.Member.{Member}
use Rattle.host_shared.specs.declared.locations.Locations.{Locations}
use Rattle.host_shared.specs.Owners.{with_pieces_of, SameLocations}
use Rattle.host_table.specs.Table.{slot_at, AreHeld, AreBare, group_at, instance_of, slot_active_in, IsHoused, EachIsHoused, Tables, TablesOk}
use Rattle.host_shared.specs.Locations.{shared_at}
use Rattle.host_table.specs.Refinement.{SlotRefines, SlotsRefine, with_log}
use Rattle.host_table.proofs.Housing.{housed_beside}
use Rattle.host_table.specs.Frames.{SameMember, IsSameMember}
use Rattle.host_shared.proofs.Lent.{stands_lent, owners_of_all}
use Rattle.host_table.proofs.Held.{members_beside, owners_of_held, held_stays, bare_stays}
use Rattle.host_table.proofs.Sights.{Views, Sees, views_of, sees_lent, slot_sees}

-- what holds of the member that is put in
pub is_new : {M : Type 0} (K : ℕ → Member M → Pieces → Group → Type 0) (groups : List Group) (i : ℕ) (o : Pieces) (n : Member M) → n.group < GROUPS → K i n o (group_at groups n.group)
    → (m : Member M) → Some n ≡ Some m → (m.group < GROUPS) × K i m o (group_at groups m.group)
is_new {M = M} K groups i o n range holds m at =
    subst (λ (q : Member M). (q.group < GROUPS) × K i q o (group_at groups q.group)) (same_Some _ _ at) (range, holds)

module _ {M : Type 0} (H : ℕ → Member M → Pieces → Group → Type 0) (instances : List (Option (Member M))) (sharing : List Locations) (groups : List Group) (i : ℕ) (x : Option (Member M)) (o : Pieces)
    (ok : Tables H instances sharing groups) (inside : i < INSTANCES) (was : slot_active_in (slot_at instances i) ≡ None) (is : slot_active_in x ≡ None) where
  slot_same : slot_at (set instances i x) i ≡ x
  slot_same =
      let i_in : i < length instances = omega (arith, inside, ok.slot_count) in
      get_or-set_same instances i x None i_in

  slot_other : (j : ℕ) → j ≢ i → slot_at (set instances i x) j ≡ slot_at instances j
  slot_other j apart = get_or-set_other instances i j x None apart

  active_same : (j : ℕ) → slot_active_in (slot_at (set instances i x) j) ≡ slot_active_in (slot_at instances j)
  active_same j =
      elim (eqb_tells j i) [
        | inl e ↦ rw (e.1, slot_same) (is ∙ sym was)
        | inr e ↦ ap slot_active_in (slot_other j e.1)
      ]

  -- with what each instance sees of write-once records afterwards
  module _ (sharing' : List Locations) (sees : Views sharing i o sharing') where
    pub tables_by_still : (K : ℕ → Member M → Pieces → Group → Type 0) → AreHeld (set instances i x) sharing' → AreBare (set instances i x) sharing'
        → ((m : Member M) → x ≡ Some m → (m.group < GROUPS) × K i m o (group_at groups m.group))
        → ((j : ℕ) (n : Member M) → j ≢ i → slot_at instances j ≡ Some n → H j n (shared_at sharing j) (group_at groups n.group) → K j n (shared_at sharing' j) (group_at groups n.group))
        → Tables K (set instances i x) sharing' groups
    tables_by_still K held bare new there = record {
      slot_count = simp length-set ok.slot_count;
      sharing_count = sees.count ∙ ok.sharing_count;
      held = held;
      bare = bare;
      group_count = ok.group_count;
      group_range = λ j n at.
          elim (eqb_tells j i) [
            | inl e ↦ (new n (sym slot_same ∙ rw e.1 at at)).0
            | inr e ↦ ok.group_range j n (sym (slot_other j e.1) ∙ at)
          ];
      housed = λ j n at.
          elim (eqb_tells j i) [
            | inl e ↦ rw (e.1, sees.here) (new n (sym slot_same ∙ rw e.1 at at)).1
            | inr e ↦
                let before = sym (slot_other j e.1) ∙ at in
                there j n e.1 before (ok.housed j n before)
          ];
      active_there = λ k j below at. active_same j ∙ ok.active_there k j below at;
      active_known = λ k j at. ok.active_known k j (sym (active_same j) ∙ at);
    }

    -- the others keep their histories, where the words of write-once records stay
    pub keeps_by_still : (laws : Laws M) (w : Option ℤ) (histories : ℕ → Log) (h : Log)
        → ((j : ℕ) (n : Member M) → j ≢ i → slot_at instances j ≡ Some n → IsLawful laws.meaning (instance_of n.inst) w → SameOnce (instance_of n.inst).table (shared_at sharing j) (shared_at sharing' j))
        → SlotRefines laws w x o groups h
        → SlotsRefine laws w instances sharing groups histories
        → SlotsRefine laws w (set instances i x) sharing' groups (with_log histories i h)
    keeps_by_still laws w histories h written new keeps j =
        elim (eqb_tells j i) [
          | inl e ↦ rw (e.0, e.1, slot_same, sees.here) new
          | inr e ↦ rw (e.0, slot_other j e.1) (slot_sees laws w (shared_at sharing j) (shared_at sharing' j) (histories j) (slot_at instances j) groups (λ n at lawful. written j n e.1 at lawful) (keeps j))
        ]

    pub keeps_by_end : (laws : Laws M) (w : Option ℤ) (histories : ℕ → Log)
        → ((j : ℕ) (n : Member M) → j ≢ i → slot_at instances j ≡ Some n → SameOnce (instance_of n.inst).table (shared_at sharing j) (shared_at sharing' j))
        → SlotRefines laws w x o groups (histories i)
        → SlotsRefine laws w instances sharing groups histories
        → SlotsRefine laws w (set instances i x) sharing' groups histories
    keeps_by_end laws w histories written new keeps j =
        elim (eqb_tells j i) [
          | inl e ↦ rw (e.1, slot_same, sees.here) new
          | inr e ↦ rw (slot_other j e.1) (slot_sees laws w (shared_at sharing j) (shared_at sharing' j) (histories j) (slot_at instances j) groups (λ n at lawful. written j n e.1 at) (keeps j))
        ]

  -- where an instance stays there, and its pieces were put back at their owners
  module _ (m : Member M) (at : slot_at instances i ≡ Some m) (pieces : SamePieces (shared_at sharing i) o) (written : SameOnce (instance_of m.inst).table (shared_at sharing i) o) where
    i_in_once : i < length sharing
    i_in_once = omega (arith, inside, ok.sharing_count)

    own_sight : Sees instances sharing i o (with_pieces_of sharing i o)
    own_sight = sees_lent instances sharing i m o ok.held i_in_once at pieces written

    own_stands : SameLocations sharing (with_pieces_of sharing i o)
    own_stands = stands_lent sharing i (owners_of_all sharing i (owners_of_held instances sharing ok.held) i_in_once) o pieces

    pub tables_by_quiet : (K : ℕ → Member M → Pieces → Group → Type 0) (n : Member M) → x ≡ Some n → SameMember m n → n.group < GROUPS → K i n o (group_at groups n.group)
        → ((j : ℕ) (n : Member M) → j ≢ i → slot_at instances j ≡ Some n → H j n (shared_at sharing j) (group_at groups n.group) → K j n (shared_at (with_pieces_of sharing i o) j) (group_at groups n.group))
        → Tables K (set instances i x) (with_pieces_of sharing i o) groups
    tables_by_quiet K n new same range here there =
        let i_in : i < length instances = omega (arith, inside, ok.slot_count) in
        let members : (j : ℕ) → IsSameMember (slot_at instances j) (slot_at (set instances i x) j) = rw new (members_beside instances i m n at i_in same) in
        tables_by_still (with_pieces_of sharing i o) (views_of instances sharing i o (with_pieces_of sharing i o) own_sight) K
        (held_stays instances (set instances i x) sharing (with_pieces_of sharing i o) members own_stands ok.held)
        (bare_stays instances (set instances i x) sharing (with_pieces_of sharing i o) members own_stands ok.bare)
        (λ q is. is_new K groups i o n range here q (sym new ∙ is)) there

    pub keeps_after_end : (laws : Laws M) (w : Option ℤ) (histories : ℕ → Log)
        → SlotRefines laws w x o groups (histories i)
        → SlotsRefine laws w instances sharing groups histories
        → SlotsRefine laws w (set instances i x) (with_pieces_of sharing i o) groups histories
    keeps_after_end laws w histories new keeps =
        keeps_by_end (with_pieces_of sharing i o) (views_of instances sharing i o (with_pieces_of sharing i o) own_sight) laws w histories own_sight.written new keeps

    -- its log went on
    pub keeps_after_call : (laws : Laws M) (w : Option ℤ) (histories : ℕ → Log) (h : Log)
        → SlotRefines laws w x o groups h
        → SlotsRefine laws w instances sharing groups histories
        → SlotsRefine laws w (set instances i x) (with_pieces_of sharing i o) groups (with_log histories i h)
    keeps_after_call laws w histories h new keeps =
        keeps_by_still (with_pieces_of sharing i o) (views_of instances sharing i o (with_pieces_of sharing i o) own_sight) laws w histories h
        (λ j n apart at lawful. own_sight.written j n apart at) new keeps

pub ok_after_still : {M : Type 0} (instances : List (Option (Member M))) (sharing : List Locations) (groups : List Group) (i : ℕ) (x : Option (Member M)) (o : Pieces) (sharing' : List Locations) → Views sharing i o sharing'
    → AreHeld (set instances i x) sharing' → AreBare (set instances i x) sharing'
    → TablesOk instances sharing groups → i < INSTANCES → slot_active_in (slot_at instances i) ≡ None → slot_active_in x ≡ None
    → ((m : Member M) → x ≡ Some m → (m.group < GROUPS) × IsHoused (instance_of m.inst) o (group_at groups m.group)) → TablesOk (set instances i x) sharing' groups
ok_after_still instances sharing groups i x o sharing' sees held bare ok inside was is new =
    tables_by_still EachIsHoused instances sharing groups i x o ok inside was is sharing' sees EachIsHoused held bare new
    (λ j n apart at before. housed_beside (instance_of n.inst) (shared_at sharing j) (shared_at sharing' j) (group_at groups n.group) (sees.others j apart) before)
