-- An instance is told where its records lie, with the piece that comes back.
use Rattle.std.proofs.Common.{◌≡◌, ◌≢◌, ℕ, ℤ, ◌<◌, Bool, inl, inr, List, length, Option, Some, None, set, refl, ◌∙◌, ap, subst, arith}
use Rattle.std.proofs.lemmas.Bool.{false≢true}
use Rattle.std.proofs.lemmas.Bool.Decides.{eqb_tells}
use Rattle.space_raw.specs.Span.{Span}
use Rattle.mem_rec.specs.declared.Space.{Space}
use Rattle.ialg.specs.Log.{Log, called, Moved}
use Rattle.ialg.specs.Laws.{Laws}
use Rattle.record_loans.specs.declared.pieces.Pieces.{Pieces}
use Rattle.record_loans.specs.Pieces.{SamePieces}
use Rattle.record_loans.specs.Blocks.{IsSameBlock}
use Rattle.scratch_group.specs.declared.group.Group.{Group}
use Rattle.scratch_group.specs.Blocks.{block_in}
use Rattle.lifecycle.specs.declared.instance.Inst.{Inst}
use Rattle.lifecycle.specs.Moves.{restored}
use Rattle.lifecycle.specs.States.{SameOnce}
use Rattle.lifecycle.proofs.Frames.{same_group}
use Rattle.mem_rec.specs.declared.TheConstants.{INSTANCES, GROUPS}
use Rattle.host_table.specs.declared.member.Member.{Member}
use Rattle.host_shared.specs.declared.locations.Locations.{Locations}
use Rattle.host_shared.specs.Owners.{with_pieces_of}
use Rattle.host_table.specs.Table.{slot_at, group_at, own_of, instance_of, active_in, slot_active_in, IsHoused, EachIsHoused, Tables, TablesOk}
use Rattle.host_shared.specs.Locations.{shared_at}
use Rattle.host_table.specs.Refinement.{InstRefines, SlotRefines, SlotsRefine}
use Rattle.host_table.specs.Frames.{SameMember, SameMembers}
use Rattle.host_table.specs.Steps.{called_at}
use Rattle.lifecycle.proofs.Groups.{same_blocks}
use Rattle.host_table.proofs.Held.{owners_of_held}
use Rattle.host_table.proofs.Changes.{tables_by_change, keeps_after_step, blocks_stay, pieces_stay}
use Rattle.host_table.proofs.Idles.{tables_by_quiet, keeps_after_call}
use Rattle.host_table.proofs.Told.{members_after, members_after_quiet}
use Rattle.host_moves.specs.Waiting.{own_set, slot_with, IsThere, IsWaiting, all_but, TablesThere, TablesBut, TablesWaiting, TablesWaitingBut}
use Rattle.host_moves.proofs.Owns.{Beside, tables_map, set_again, own_set_same, active_with, but_own, housed_beside, waiting_beside, member_back}

-- instance i was told, and whatever held of the others does
abbrev pub ToldBeside : {M : Type 0} → (ℕ → Member M → Pieces → Group → Type 0) → ℕ → ℕ → Member M → Pieces → Group → Type 0
ToldBeside H i j m o y = (j ≡ i → IsHoused (instance_of m.inst) o y) × (j ≢ i → H j m o y)

-- what goes by the places of pieces and blocks alone
abbrev pub IsByPlaces : {M : Type 0} → (ℕ → Member M → Pieces → Group → Type 0) → Type 0
IsByPlaces {M} H = (j : ℕ) (m : Member M) (o o' : Pieces) (y y' : Group) → SamePieces o o' → ((space : Space) → IsSameBlock (block_in y space) (block_in y' space)) → H j m o y → H j m o' y'

-- all are housed then, or wait but for this one
all_told : {M : Type 0} (i j : ℕ) (m : Member M) (o : Pieces) (y : Group) → ToldBeside EachIsHoused i j m o y → EachIsHoused j m o y
all_told i j m o y told =
    elim (eqb_tells j i) [
      | inl e ↦ told.0 e.1
      | inr e ↦ told.1 e.1
    ]

one_told : {M : Type 0} (waits : ℕ → Bool) (i j : ℕ) (m : Member M) (o : Pieces) (y : Group) → ToldBeside (IsWaiting waits) i j m o y → IsWaiting (all_but waits i) j m o y
one_told waits i j m o y told =
    elim (eqb_tells j i) [
      | inl e ↦ record { told = λ h. told.0 e.1; room = λ h. absurd (false≢true (rw e.0 at h)) }
      | inr e ↦ record { told = λ h. (told.1 e.1).told (rw e.0 at h); room = λ h. (told.1 e.1).room (rw e.0 at h) }
    ]

module _ {M : Type 0} (instances : List (Option (Member M))) (sharing : List Locations) (groups : List Group) (i : ℕ) (m : Member M) (back : Option (ℕ × Span))
    (there : TablesThere instances sharing groups) (at : slot_at instances i ≡ Some m) (below : i < INSTANCES) where
  -- the tables with the piece that comes back
  abbrev with_piece_back : List (Option (Member M))
  with_piece_back = own_set instances i (restored back (own_of (slot_at instances i)))

  back_beside : (H : ℕ → Member M → Pieces → Group → Type 0) → Tables (Beside H i) instances sharing groups → Tables (Beside H i) with_piece_back sharing groups
  back_beside H before = but_own H i (restored back (own_of (slot_at instances i))) instances sharing groups before

  there_back : Tables (Beside IsThere i) with_piece_back sharing groups
  there_back = back_beside IsThere (tables_map IsThere (Beside IsThere i) instances sharing groups (λ j q o y h apart. h) there)

  at_back : slot_at with_piece_back i ≡ Some (member_back back m)
  at_back = own_set_same instances i (restored back (own_of (slot_at instances i))) ∙ rw at refl

  i_in : i < length with_piece_back
  i_in = omega (arith, below, there_back.slot_count)

  i_in_once : i < length sharing
  i_in_once = omega (arith, below, there.sharing_count)

  g_in : m.group < length groups
  g_in = let range = there.group_range i m at in omega (arith, range, there.group_count)

  again : (x : Option (Member M)) → set with_piece_back i x ≡ set instances i x
  again x = set_again instances i (slot_with (slot_at instances i) (restored back (own_of (slot_at instances i)))) x

  -- an idle one
  module _ (n : Member M) (o : Pieces) (was : slot_active_in (Some m) ≡ None) (is : slot_active_in (Some n) ≡ None) (same : SameMember (member_back back m) n)
      (pieces : SamePieces (shared_at sharing i) o) (written : SameOnce (instance_of (member_back back m).inst).table (shared_at sharing i) o) where
    idle_before : slot_active_in (slot_at with_piece_back i) ≡ None
    idle_before = ap slot_active_in at_back ∙ active_with m.group m.inst (restored back (instance_of m.inst).own) ∙ was

    module _ (range : n.group < GROUPS) (housed : IsHoused (instance_of n.inst) o (group_at groups n.group)) where
      tables_of_idle : (H : ℕ → Member M → Pieces → Group → Type 0) → IsByPlaces H → Tables (Beside H i) instances sharing groups → Tables (ToldBeside H i) (set instances i (Some n)) (with_pieces_of sharing i o) groups
      tables_of_idle H by_places before =
          subst (λ (l : List (Option (Member M))). Tables (ToldBeside H i) l (with_pieces_of sharing i o) groups) (again (Some n))
          (tables_by_quiet (Beside H i) with_piece_back sharing groups i (Some n) o (back_beside H before) below idle_before is (member_back back m) at_back pieces written (ToldBeside H i) n refl same range
          ((λ e. housed), (λ apart. absurd (apart refl)))
          (λ j q apart here holds. (
            (λ e. absurd (apart e)),
            (λ other. by_places j q (shared_at sharing j) (shared_at (with_pieces_of sharing i o) j) (group_at groups q.group) (group_at groups q.group) (pieces_stay sharing i o i_in_once (owners_of_held instances sharing there.held) pieces j)
                (λ space. same_blocks _ _ (same_group (group_at groups q.group)) space) (holds apart)),
          )))

      pub ok_of_idle : TablesBut i instances sharing groups → TablesOk (set instances i (Some n)) (with_pieces_of sharing i o) groups
      ok_of_idle before =
          tables_map (ToldBeside EachIsHoused i) EachIsHoused (set instances i (Some n)) (with_pieces_of sharing i o) groups (all_told i)
          (tables_of_idle EachIsHoused (λ j q a a' y y' so sb h. housed_beside q a a' y y' so sb h) before)

      pub waiting_of_idle : (waits : ℕ → Bool) → TablesWaitingBut waits i instances sharing groups → TablesWaiting (all_but waits i) (set instances i (Some n)) (with_pieces_of sharing i o) groups
      waiting_of_idle waits before =
          tables_map (ToldBeside (IsWaiting waits) i) (IsWaiting (all_but waits i)) (set instances i (Some n)) (with_pieces_of sharing i o) groups (one_told waits i)
          (tables_of_idle (IsWaiting waits) (λ j q a a' y y' so sb h. waiting_beside waits j q a a' y y' so sb h) before)

    pub same_of_idle : SameMembers with_piece_back sharing groups (set instances i (Some n)) (with_pieces_of sharing i o) groups
    same_of_idle =
        subst (λ (l : List (Option (Member M))). SameMembers with_piece_back sharing groups l (with_pieces_of sharing i o) groups) (again (Some n))
        (members_after_quiet with_piece_back sharing groups i (member_back back m) n o i_in i_in_once (owners_of_held instances sharing there.held) at_back same pieces)

    pub keeps_of_idle : (laws : Laws M) (w : Option ℤ) (histories : ℕ → Log)
        → (InstRefines laws w (member_back back m).inst (shared_at sharing i) (group_at groups m.group) (histories i)
        → SlotRefines laws w (Some n) o groups (called Moved (histories i)))
        → SlotsRefine laws w with_piece_back sharing groups histories
        → SlotsRefine laws w (set instances i (Some n)) (with_pieces_of sharing i o) groups (called_at i Moved histories)
    keeps_of_idle laws w histories step keeps =
        let here : SlotRefines laws w (Some (member_back back m)) (shared_at sharing i) groups (histories i) = rw at_back at (keeps i) in
        subst (λ (l : List (Option (Member M))). SlotsRefine laws w l (with_pieces_of sharing i o) groups (called_at i Moved histories)) (again (Some n))
        (keeps_after_call (Beside IsThere i) with_piece_back sharing groups i (Some n) o there_back below idle_before is (member_back back m) at_back pieces written laws w histories (called Moved (histories i)) (step here) keeps)

  -- an active one
  module _ (inst : Inst M) (o : Pieces) (y : Group) (alone : (j : ℕ) → (group_at groups m.group).active ≡ Some j → j ≡ i) (now : y.active ≡ active_in i inst)
      (same : SameMember (member_back back m) (record { group = m.group; inst = inst }))
      (pieces : SamePieces (shared_at sharing i) o) (written : SameOnce (instance_of (member_back back m).inst).table (shared_at sharing i) o)
      (blocks : (space : Space) → IsSameBlock (block_in (group_at groups m.group) space) (block_in y space)) where
    abbrev told : List (Option (Member M))
    told = set instances i (Some (record { group = m.group; inst = inst }))

    module _ (housed : IsHoused (instance_of inst) (shared_at (with_pieces_of sharing i o) i) (group_at (set groups m.group y) m.group)) where
      tables_of_active : (H : ℕ → Member M → Pieces → Group → Type 0) → IsByPlaces H → Tables (Beside H i) instances sharing groups → Tables (ToldBeside H i) told (with_pieces_of sharing i o) (set groups m.group y)
      tables_of_active H by_places before =
          subst (λ (l : List (Option (Member M))). Tables (ToldBeside H i) l (with_pieces_of sharing i o) (set groups m.group y)) (again (Some (record { group = m.group; inst = inst })))
          (tables_by_change (Beside H i) with_piece_back sharing groups i m.group (member_back back m) inst o y (back_beside H before) at_back refl alone now pieces written (ToldBeside H i) same
          ((λ e. housed), (λ apart. absurd (apart refl)))
          (λ j q apart here holds. (
            (λ e. absurd (apart e)),
            (λ other. by_places j q (shared_at sharing j) (shared_at (with_pieces_of sharing i o) j) (group_at groups q.group) (group_at (set groups m.group y) q.group)
                (pieces_stay sharing i o i_in_once (owners_of_held instances sharing there.held) pieces j) (blocks_stay groups m.group y g_in blocks q.group) (holds apart)),
          )))

      pub ok_of_active : TablesBut i instances sharing groups → TablesOk told (with_pieces_of sharing i o) (set groups m.group y)
      ok_of_active before =
          tables_map (ToldBeside EachIsHoused i) EachIsHoused told (with_pieces_of sharing i o) (set groups m.group y) (all_told i)
          (tables_of_active EachIsHoused (λ j q a a' b b' so sb h. housed_beside q a a' b b' so sb h) before)

      pub waiting_of_active : (waits : ℕ → Bool) → TablesWaitingBut waits i instances sharing groups → TablesWaiting (all_but waits i) told (with_pieces_of sharing i o) (set groups m.group y)
      waiting_of_active waits before =
          tables_map (ToldBeside (IsWaiting waits) i) (IsWaiting (all_but waits i)) told (with_pieces_of sharing i o) (set groups m.group y) (one_told waits i)
          (tables_of_active (IsWaiting waits) (λ j q a a' b b' so sb h. waiting_beside waits j q a a' b b' so sb h) before)

    pub same_of_active : SameMembers with_piece_back sharing groups told (with_pieces_of sharing i o) (set groups m.group y)
    same_of_active =
        subst (λ (l : List (Option (Member M))). SameMembers with_piece_back sharing groups l (with_pieces_of sharing i o) (set groups m.group y)) (again (Some (record { group = m.group; inst = inst })))
        (members_after with_piece_back sharing groups i m.group (member_back back m) (record { group = m.group; inst = inst }) o y i_in i_in_once (owners_of_held instances sharing there.held) g_in at_back same pieces blocks)

    pub keeps_of_active : (laws : Laws M) (w : Option ℤ) (histories : ℕ → Log)
        → (InstRefines laws w (member_back back m).inst (shared_at sharing i) (group_at groups m.group) (histories i) → InstRefines laws w inst o y (called Moved (histories i)))
        → SlotsRefine laws w with_piece_back sharing groups histories
        → SlotsRefine laws w told (with_pieces_of sharing i o) (set groups m.group y) (called_at i Moved histories)
    keeps_of_active laws w histories step keeps =
        subst (λ (l : List (Option (Member M))). SlotsRefine laws w l (with_pieces_of sharing i o) (set groups m.group y) (called_at i Moved histories)) (again (Some (record { group = m.group; inst = inst })))
        (keeps_after_step (Beside IsThere i) with_piece_back sharing groups i m.group (member_back back m) inst o y there_back at_back refl alone now pieces written laws w histories (called Moved (histories i)) step keeps)
