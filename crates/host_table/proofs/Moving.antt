-- A member of a group is told where its records lie.
use Rattle.std.proofs.Common.{◌≡◌, ◌<◌, ◌+◌, ℕ, ℤ, true, List, Option, Some, None, set, refl, sym, ◌∙◌, subst}
use Rattle.std.specs.Prelude.{slice_index_or}
use Rattle.std.proofs.lemmas.Option.{same_Some}
use Rattle.mem_rec.specs.declared.Space.{Space}
use Rattle.mem_rec.specs.declared.TheConstants.{INSTANCES, GROUPS}
use Rattle.ialg.specs.Log.{called, Moved}
use Rattle.ialg.specs.Laws.{Laws}
use Rattle.record_loans.specs.declared.pieces.Pieces.{Pieces}
use Rattle.record_loans.specs.Blocks.{IsSameBlock}
use Rattle.scratch_group.specs.declared.group.Group.{Group}
use Rattle.scratch_group.specs.Blocks.{block_in}
use Rattle.lifecycle.specs.declared.active.Active.{Active}
use Rattle.lifecycle.specs.declared.idle.Idle.{Idle}
use Rattle.lifecycle.specs.declared.instance.Inst.{Inst}
use Rattle.lifecycle.specs.declared.instance.Inst.TheVariants.{Idling, Running}
use Rattle.lifecycle.specs.States.{SameOnce}
use Rattle.lifecycle.specs.Turns.{ActiveFollowsSharing, CanBeLentAgain, IdleFollows}
use Rattle.lifecycle.proofs.Frames.{same_group}
use Rattle.host_shared.specs.declared.locations.Locations.{Locations}
use Rattle.host_shared.specs.Locations.{shared_at}
use Rattle.host_shared.specs.Owners.{AllHaveOwners, HasOwners, OnlyItsPiecesChange, with_pieces_of}
use Rattle.host_table.specs.declared.member.Member.{Member}
use Rattle.host_table.specs.Frames.{InactiveGroupsStay, SameMember}
use Rattle.host_table.specs.Table.{slot_at, group_at, instance_of, is_member_of, slot_active_in, activity_at, IsHoused, IsTold, SameActivities, TablesTold}
use Rattle.host_table.specs.Steps.{AllLogsGo, MembersAreTold, MembersStay, called_at}
use Rattle.host_table.specs.View.{View}
use Rattle.host_table.proofs.Activities.{activity_stays, group_change, inactive_beside}
use Rattle.host_table.proofs.Changes.{owners_in, read_ok_slot, read_ok_group, kept_in_slot, tables_by_change, keeps_after_step, blocks_stay, pieces_stay, group_inside, once_inside, slot_in}
use Rattle.host_table.proofs.Held.{in_group, once_unplaced, owners_of_held}
use Rattle.lifecycle.proofs.Groups.{same_blocks}
use Rattle.host_table.proofs.Housing.{settled_stays, settled_at}
use Rattle.host_table.proofs.Idles.{tables_by_quiet, keeps_after_call}
use Rattle.host_table.proofs.Stepping.{tables}
use Rattle.host_table.proofs.Told.{member_is, is_told, told_here, told_beside, told_member, members_after, members_after_quiet}

-- the tables were opened at the slot of a member
module _ {M : Type 0} {instances : List (Option (Member M))} {sharing : List Locations} {groups : List Group} {t : View M} {g i : ℕ} {r : Option (Member M)} {m : Member M}
    (view : tables instances sharing groups ≡ t) (told : MembersAreTold g i t) (member : is_member_of g (slot_at t.instances i) ≡ true) (number : i < INSTANCES) (range : g < GROUPS)
    (read : r ≡ slice_index_or instances i r) (is : r ≡ Some m) where
  held : TablesTold g i instances sharing groups
  held = subst (λ (x : View M). MembersAreTold g i x) (sym view) told

  in_slot : slot_at instances i ≡ Some m
  in_slot = read_ok_slot instances sharing groups held i number r read ∙ is

  of_group : m.group ≡ g
  of_group = member_is (slot_at instances i) g m in_slot (subst (λ (x : View M). is_member_of g (slot_at x.instances i) ≡ true) (sym view) member)

  owners : HasOwners sharing i
  owners = owners_in instances sharing groups held i number

  all_owners : AllHaveOwners sharing
  all_owners = owners_of_held instances sharing held.held

  group_in : (y : Group) → y ≡ slice_index_or groups g y → group_at groups g ≡ y
  group_in y at_group = read_ok_group instances sharing groups held g range y at_group

  pub can_be_lent : {inst : Inst M} {y : Group} → m.inst ≡ inst → y ≡ slice_index_or groups g y → CanBeLentAgain (instance_of inst) None sharing i y
  can_be_lent {y = y} inst_is at_group = record {
    number = once_inside instances sharing groups held i m in_slot;
    owners = owners;
    room = rw (inst_is, of_group, group_in y at_group) at ((held.housed i m in_slot).waits of_group);
  }

  -- an idle one
  module _ {laws : Laws M} {s s' : Idle M} {y : Group} {sharing' : List Locations}
      (inst_is : m.inst ≡ Idling s) (at_group : y ≡ slice_index_or groups g y) (seen : OnlyItsPiecesChange i sharing sharing') (did : IdleFollows laws None i s sharing s' sharing' y) where
    abbrev idle : Member M
    idle = record { group = m.group; inst = Idling s' }

    abbrev idle_sees : Pieces
    idle_sees = shared_at sharing' i

    was : slot_active_in (slot_at instances i) ≡ None
    was = rw (in_slot, inst_is) refl

    idle_same : SameMember m idle
    idle_same = told_member m (Idling s') (shared_at sharing i) y (rw inst_is did.same)

    idle_written : SameOnce (instance_of m.inst).table (shared_at sharing i) idle_sees
    idle_written = once_unplaced (instance_of m.inst).table s'.instance.table (shared_at sharing i) idle_sees idle_same.table did.written

    pub idle_told : TablesTold g (i + 1) (set instances i (Some idle)) sharing' groups
    idle_told =
        let housed : IsHoused s'.instance idle_sees y = record { fits = did.fits; settled = settled_stays s.instance s'.instance (shared_at sharing i) idle_sees y did.same did.pieces } in
        rw seen
        (tables_by_quiet (IsTold g i) instances sharing groups i (Some idle) idle_sees held number was refl m in_slot did.pieces idle_written
        (IsTold g (i + 1)) idle refl idle_same (rw of_group range)
        (is_told g (i + 1) i idle idle_sees (group_at groups m.group) (rw (of_group, group_in y at_group) housed))
        (λ j n apart here before. told_beside g i j n (shared_at sharing j) (shared_at (with_pieces_of sharing i idle_sees) j) (group_at groups n.group) (group_at groups n.group) apart
        (pieces_stay sharing i idle_sees (once_inside instances sharing groups held i m in_slot) all_owners did.pieces j)
        (λ space. same_blocks _ _ (same_group (group_at groups n.group)) space) before))

    pub idle_stays : MembersStay t (tables (set instances i (Some idle)) sharing' groups)
    idle_stays =
        rw (← view, seen)
        (members_after_quiet instances sharing groups i m idle idle_sees (slot_in instances i m in_slot) (once_inside instances sharing groups held i m in_slot) all_owners in_slot idle_same did.pieces)

    pub idle_keeps : AllLogsGo laws t (tables (set instances i (Some idle)) sharing' groups) (called_at i Moved)
    idle_keeps =
        rw (← view, seen)
        (λ w histories kept.
        keeps_after_call (IsTold g i) instances sharing groups i (Some idle) idle_sees held number was refl m in_slot did.pieces idle_written laws w histories (called Moved (histories i))
        (did.keeps w (histories i) (kept_in_slot instances sharing groups i in_slot inst_is refl refl laws w histories kept)) kept)

  -- the active one
  module _ {laws : Laws M} {s s' : Active M} {y y' : Group} {sharing' : List Locations}
      (inst_is : m.inst ≡ Running s) (at_group : y ≡ slice_index_or groups g y) (seen : OnlyItsPiecesChange i sharing sharing') (did : ActiveFollowsSharing laws None i s sharing s' sharing' y y') where
    abbrev active : Member M
    active = record { group = m.group; inst = Running s' }

    abbrev active_sees : Pieces
    active_sees = shared_at sharing' i

    known : (group_at groups g).active ≡ Some i
    known = held.active_known g i (rw (in_slot, inst_is, of_group) refl)

    active_same : SameMember m active
    active_same = told_member m (Running s') (shared_at sharing i) y (rw inst_is did.same)

    active_written : SameOnce (instance_of m.inst).table (shared_at sharing i) active_sees
    active_written = once_unplaced (instance_of m.inst).table s'.instance.table (shared_at sharing i) active_sees active_same.table did.written

    active_blocks : (space : Space) → IsSameBlock (block_in (group_at groups g) space) (block_in y' space)
    active_blocks space = rw (group_in y at_group) (same_blocks y y' did.group space)

    alone : (j : ℕ) → (group_at groups g).active ≡ Some j → j ≡ i
    alone j other = same_Some j i (sym other ∙ known)

    now : y'.active ≡ Some i
    now = did.group.active ∙ rw (group_in y at_group) at known

    pub active_told : TablesTold g (i + 1) (set instances i (Some active)) sharing' (set groups g y')
    active_told =
        let housed : IsHoused s'.instance active_sees y' =
        record { fits = did.fits; settled = settled_at s.instance s'.instance (shared_at sharing i) active_sees y y' did.same did.pieces (λ space. same_blocks y y' did.group space) } in
        rw (of_group, seen)
        (tables_by_change (IsTold g i) instances sharing groups i g m (Running s') active_sees y' held in_slot of_group alone now did.pieces active_written
        (IsTold g (i + 1)) (in_group m g (Running s') of_group active_same)
        (told_here g i sharing groups active_sees y' (record { group = g; inst = Running s' }) owners (group_inside instances sharing groups held g range) housed)
        (λ j n apart here before. told_beside g i j n (shared_at sharing j) (shared_at (with_pieces_of sharing i active_sees) j) (group_at groups n.group) (group_at (set groups g y') n.group) apart
        (pieces_stay sharing i active_sees (once_inside instances sharing groups held i m in_slot) all_owners did.pieces j)
        (blocks_stay groups g y' (group_inside instances sharing groups held g range) active_blocks n.group) before))

    pub active_inactive : InactiveGroupsStay t.groups (set groups g y')
    active_inactive = rw (← view) (inactive_beside groups g i y' known)

    pub active_stays : MembersStay t (tables (set instances i (Some active)) sharing' (set groups g y'))
    active_stays =
        rw (← view, seen)
        (members_after instances sharing groups i g m active active_sees y' (slot_in instances i m in_slot) (once_inside instances sharing groups held i m in_slot) all_owners (group_inside instances sharing groups held g range) in_slot active_same did.pieces active_blocks)

    pub active_activity : SameActivities t.groups (set groups g y')
    active_activity =
        rw (← view)
        (λ k. group_change groups g y' (group_inside instances sharing groups held g range) k
        ∙ activity_stays (activity_at groups) g _ (rw (group_in y at_group) did.group.active) (rw (group_in y at_group) did.group.activations) k)

    pub active_keeps : AllLogsGo laws t (tables (set instances i (Some active)) sharing' (set groups g y')) (called_at i Moved)
    active_keeps =
        rw (← view, of_group, seen)
        (λ w histories kept.
        keeps_after_step (IsTold g i) instances sharing groups i g m (Running s') active_sees y' held in_slot of_group alone now did.pieces active_written laws w histories (called Moved (histories i))
        (λ before. did.keeps w (histories i) (rw (group_in y at_group, inst_is) at before)) kept)
