use Rattle.std.proofs.Common.{◌≡◌, ℕ, ◌<◌, Some, None, get_or-set_same, refl, sym, ap, ◌∙◌, arith}
use Rattle.std.proofs.lemmas.Option.{same_Some}
use Rattle.mem_rec.specs.declared.Space.{Space}
use Rattle.record_loans.specs.Pieces.{SamePieces}
use Rattle.record_loans.specs.Blocks.{IsSameBlock}
use Rattle.scratch_group.specs.Blocks.{block_in}
use Rattle.lifecycle.specs.declared.instance.Inst.TheVariants.{Idling, Running}
use Rattle.lifecycle.specs.Moves.{with_back}
use Rattle.lifecycle.specs.States.{SameOnce}
use Rattle.mem_rec.specs.declared.TheConstants.{GROUPS}
use Rattle.host_shared.specs.Owners.{HasOwners}
use Rattle.host_table.specs.Table.{slot_at, group_at, no_group, instance_of, slot_active_in, activity_at, IsHoused}
use Rattle.host_shared.specs.Locations.{shared_at}
use Rattle.host_table.specs.Frames.{SameMember}
use Rattle.lifecycle.proofs.Groups.{same_blocks}
use Rattle.host_table.proofs.Housing.{settled_stays, settled_at}
use Rattle.host_shared.proofs.Owners.{lent_here}
use Rattle.host_table.proofs.Held.{once_unplaced}
use Rattle.host_table.proofs.Changes.{once_inside, owners_in, read_ok_slot, read_ok_group}
use Rattle.host_table.proofs.Activities.{activity_stays, group_change, inactive_beside}
use Rattle.host_table.proofs.Told.{told_member}
use Rattle.host_moves.proofs.Owns.{member_back}
use Rattle.host_moves.proofs.Tells.{ok_of_idle, waiting_of_idle, same_of_idle, keeps_of_idle, ok_of_active, waiting_of_active, same_of_active, keeps_of_active}
use Rattle.host_moves.proofs.told.tell.Goals as goal
use Rattle.host_moves.proofs.told.tell.Goals.{After-moved, After-moved-in-Running}
use Rattle.host_moves.proofs.told.tell.Given.{Over}

pub moved-requires-clause-lent : goal.moved-requires-clause-lent
moved-requires-clause-lent g c =
    let there = rw (← c.tables.view_is) at c.requires.there in
    let at = read_ok_slot _ _ _ there c.args.i c.requires.number _ c.index_mut.ensures.value ∙ c.in-Some.is in
    let group_is = read_ok_group _ _ _ there c.in-Some.member.group (there.group_range c.args.i _ at) _ c.index.ensures in
    record {
      number = once_inside _ _ _ there c.args.i _ at;
      owners = owners_in _ _ _ there c.args.i c.requires.number;
      room = rw (c.in-Idling.is, group_is) at ((rw (← c.tables.view_is) at c.requires.room) _ at);
    }

pub moved-requires-in-Running-clause-lent : goal.moved-requires-in-Running-clause-lent
moved-requires-in-Running-clause-lent g c =
    let there = rw (← c.tables.view_is) at c.requires.there in
    let at = read_ok_slot _ _ _ there c.args.i c.requires.number _ c.index_mut.ensures.value ∙ c.in-Some.is in
    let group_is = read_ok_group _ _ _ there c.in-Some.member.group (there.group_range c.args.i _ at) _ c.index_mut-group.ensures.value in
    record {
      number = once_inside _ _ _ there c.args.i _ at;
      owners = owners_in _ _ _ there c.args.i c.requires.number;
      room = rw (c.in-Running.is, group_is) at ((rw (← c.tables.view_is) at c.requires.room) _ at);
    }

-- an idle instance
module _ (g : Over) (c : After-moved g) where
  idle_in_slot : slot_at c.tables.inside.instances.items c.args.i ≡ Some c.in-Some.member
  idle_in_slot = read_ok_slot _ _ _ (rw (← c.tables.view_is) at c.requires.there) c.args.i c.requires.number _ c.index_mut.ensures.value ∙ c.in-Some.is

  idle_range : c.in-Some.member.group < GROUPS
  idle_range = (rw (← c.tables.view_is) at c.requires.there).group_range c.args.i _ idle_in_slot

  idle_group_is : group_at c.tables.inside.groups.items c.in-Some.member.group ≡ c.index.result.now
  idle_group_is = read_ok_group _ _ _ (rw (← c.tables.view_is) at c.requires.there) c.in-Some.member.group idle_range _ c.index.ensures

  idle_was : slot_active_in (Some c.in-Some.member) ≡ None
  idle_was = rw c.in-Idling.is refl

  idle_same : SameMember (member_back c.args.back c.in-Some.member) (record { group = c.in-Some.member.group; inst = Idling c.moved.new.self })
  idle_same =
      told_member (member_back c.args.back c.in-Some.member) (Idling c.moved.new.self) (shared_at c.tables.inside.sharing.items c.args.i) c.index.result.now (rw c.in-Idling.is c.moved.ensures.did.same)

  idle_pieces : SamePieces (shared_at c.tables.inside.sharing.items c.args.i) (shared_at c.moved.new.sharing.items c.args.i)
  idle_pieces = c.moved.ensures.did.pieces

  idle_written : SameOnce (instance_of (member_back c.args.back c.in-Some.member).inst).table (shared_at c.tables.inside.sharing.items c.args.i) (shared_at c.moved.new.sharing.items c.args.i)
  idle_written = once_unplaced _ c.moved.new.self.instance.table _ _ idle_same.table c.moved.ensures.did.written

  idle_housed : IsHoused c.moved.new.self.instance (shared_at c.moved.new.sharing.items c.args.i) (group_at c.tables.inside.groups.items c.in-Some.member.group)
  idle_housed = record {
    fits = rw idle_group_is c.moved.ensures.did.fits;
    settled = rw idle_group_is (settled_stays (with_back c.in-Idling.idle.instance c.args.back) c.moved.new.self.instance _ _ c.index.result.now c.moved.ensures.did.same c.moved.ensures.did.pieces);
  }

pub returns-in-Idling-clause-ok : goal.returns-in-Idling-clause-ok
returns-in-Idling-clause-ok g c =
    let d = (goal.at.returns-in-Idling-clause-ok g c).After-moved in
    rw (← c.tables.view_is)
    (λ before.
    rw c.moved.ensures.seen
    (ok_of_idle _ _ _ c.args.i c.in-Some.member c.args.back (rw (← c.tables.view_is) at c.requires.there) (idle_in_slot g d) c.requires.number (record { group = c.in-Some.member.group; inst = Idling c.moved.new.self }) _ (idle_was g d) refl
    (idle_same g d) (idle_pieces g d) (idle_written g d) (idle_range g d) (idle_housed g d) before))

pub returns-in-Idling-clause-waiting : goal.returns-in-Idling-clause-waiting
returns-in-Idling-clause-waiting g c =
    let d = (goal.at.returns-in-Idling-clause-waiting g c).After-moved in
    rw (← c.tables.view_is)
    (λ waits before.
    rw c.moved.ensures.seen
    (waiting_of_idle _ _ _ c.args.i c.in-Some.member c.args.back (rw (← c.tables.view_is) at c.requires.there) (idle_in_slot g d) c.requires.number (record { group = c.in-Some.member.group; inst = Idling c.moved.new.self }) _ (idle_was g d) refl
    (idle_same g d) (idle_pieces g d) (idle_written g d) (idle_range g d) (idle_housed g d) waits before))

pub returns-in-Idling-clause-same : goal.returns-in-Idling-clause-same
returns-in-Idling-clause-same g c =
    let d = (goal.at.returns-in-Idling-clause-same g c).After-moved in
    rw (← c.tables.view_is)
    (rw c.moved.ensures.seen
    (same_of_idle _ _ _ c.args.i c.in-Some.member c.args.back (rw (← c.tables.view_is) at c.requires.there) (idle_in_slot g d) c.requires.number (record { group = c.in-Some.member.group; inst = Idling c.moved.new.self }) _ (idle_was g d) refl
    (idle_same g d) (idle_pieces g d) (idle_written g d)))

pub returns-in-Idling-clause-keeps : goal.returns-in-Idling-clause-keeps
returns-in-Idling-clause-keeps g c =
    let d = (goal.at.returns-in-Idling-clause-keeps g c).After-moved in
    rw (← c.tables.view_is)
    (λ w histories keeps.
    rw c.moved.ensures.seen
    (keeps_of_idle _ _ _ c.args.i c.in-Some.member c.args.back (rw (← c.tables.view_is) at c.requires.there) (idle_in_slot g d) c.requires.number (record { group = c.in-Some.member.group; inst = Idling c.moved.new.self }) _ (idle_was g d) refl
    (idle_same g d) (idle_pieces g d) (idle_written g d)
    g.M.Ialg.law w histories
    (λ before. c.moved.ensures.did.keeps w (histories c.args.i) (rw c.in-Idling.is at before)) keeps))

-- an active instance
module _ (g : Over) (c : After-moved-in-Running g) where
  active_in_slot : slot_at c.tables.inside.instances.items c.args.i ≡ Some c.in-Some.member
  active_in_slot = read_ok_slot _ _ _ (rw (← c.tables.view_is) at c.requires.there) c.args.i c.requires.number _ c.index_mut.ensures.value ∙ c.in-Some.is

  active_owners : HasOwners c.tables.inside.sharing.items c.args.i
  active_owners = owners_in _ _ _ (rw (← c.tables.view_is) at c.requires.there) c.args.i c.requires.number

  active_range : c.in-Some.member.group < GROUPS
  active_range = (rw (← c.tables.view_is) at c.requires.there).group_range c.args.i _ active_in_slot

  active_group_is : group_at c.tables.inside.groups.items c.in-Some.member.group ≡ c.index_mut-group.result.now
  active_group_is = read_ok_group _ _ _ (rw (← c.tables.view_is) at c.requires.there) c.in-Some.member.group active_range _ c.index_mut-group.ensures.value

  active_known : (group_at c.tables.inside.groups.items c.in-Some.member.group).active ≡ Some c.args.i
  active_known = (rw (← c.tables.view_is) at c.requires.there).active_known c.in-Some.member.group c.args.i (rw (active_in_slot, c.in-Running.is) refl)

  active_alone : (j : ℕ) → (group_at c.tables.inside.groups.items c.in-Some.member.group).active ≡ Some j → j ≡ c.args.i
  active_alone j other = same_Some j c.args.i (sym other ∙ active_known)

  active_now : c.moved-in-Running.new.group.active ≡ Some c.args.i
  active_now = c.moved-in-Running.ensures.did.group.active ∙ rw active_group_is at active_known

  active_same : SameMember (member_back c.args.back c.in-Some.member) (record { group = c.in-Some.member.group; inst = Running c.moved-in-Running.new.self })
  active_same =
      told_member (member_back c.args.back c.in-Some.member) (Running c.moved-in-Running.new.self) (shared_at c.tables.inside.sharing.items c.args.i) c.index_mut-group.result.now (rw c.in-Running.is c.moved-in-Running.ensures.did.same)

  active_pieces : SamePieces (shared_at c.tables.inside.sharing.items c.args.i) (shared_at c.moved-in-Running.new.sharing.items c.args.i)
  active_pieces = c.moved-in-Running.ensures.did.pieces

  active_written : SameOnce (instance_of (member_back c.args.back c.in-Some.member).inst).table (shared_at c.tables.inside.sharing.items c.args.i) (shared_at c.moved-in-Running.new.sharing.items c.args.i)
  active_written = once_unplaced _ c.moved-in-Running.new.self.instance.table _ _ active_same.table c.moved-in-Running.ensures.did.written

  active_blocks : (space : Space) → IsSameBlock (block_in (group_at c.tables.inside.groups.items c.in-Some.member.group) space) (block_in c.moved-in-Running.new.group space)
  active_blocks space = rw active_group_is (same_blocks _ _ c.moved-in-Running.ensures.did.group space)

  active_housed : IsHoused c.moved-in-Running.new.self.instance (shared_at c.moved-in-Running.new.sharing.items c.args.i) c.moved-in-Running.new.group
  active_housed = record {
    fits = c.moved-in-Running.ensures.did.fits;
    settled = settled_at (with_back c.in-Running.active.instance c.args.back) c.moved-in-Running.new.self.instance _ _ c.index_mut-group.result.now c.moved-in-Running.new.group
        c.moved-in-Running.ensures.did.same c.moved-in-Running.ensures.did.pieces (λ space. same_blocks _ _ c.moved-in-Running.ensures.did.group space);
  }

pub returns-in-Running-clause-ok : goal.returns-in-Running-clause-ok
returns-in-Running-clause-ok g c =
    let d = (goal.at.returns-in-Running-clause-ok g c).After-moved-in-Running in
    rw (← c.tables.view_is)
    (λ before.
    rw c.moved-in-Running.ensures.seen
    (ok_of_active _ _ _ c.args.i c.in-Some.member c.args.back (rw (← c.tables.view_is) at c.requires.there) (active_in_slot g d) c.requires.number (Running c.moved-in-Running.new.self) _ _ (active_alone g d) (active_now g d) (active_same g d) (active_pieces g d) (active_written g d) (active_blocks g d)
    (rw (
      lent_here c.tables.inside.sharing.items c.args.i (active_owners g d) (shared_at c.moved-in-Running.new.sharing.items c.args.i),
      get_or-set_same c.tables.inside.groups.items c.in-Some.member.group c.moved-in-Running.new.group no_group (omega (arith, (active_range g d), (rw (← c.tables.view_is) at c.requires.there).group_count)),
    ) (active_housed g d)) before))

pub returns-in-Running-clause-waiting : goal.returns-in-Running-clause-waiting
returns-in-Running-clause-waiting g c =
    let d = (goal.at.returns-in-Running-clause-waiting g c).After-moved-in-Running in
    rw (← c.tables.view_is)
    (λ waits before.
    rw c.moved-in-Running.ensures.seen
    (waiting_of_active _ _ _ c.args.i c.in-Some.member c.args.back (rw (← c.tables.view_is) at c.requires.there) (active_in_slot g d) c.requires.number (Running c.moved-in-Running.new.self) _ _ (active_alone g d) (active_now g d) (active_same g d) (active_pieces g d) (active_written g d) (active_blocks g d)
    (rw (
      lent_here c.tables.inside.sharing.items c.args.i (active_owners g d) (shared_at c.moved-in-Running.new.sharing.items c.args.i),
      get_or-set_same c.tables.inside.groups.items c.in-Some.member.group c.moved-in-Running.new.group no_group (omega (arith, (active_range g d), (rw (← c.tables.view_is) at c.requires.there).group_count)),
    ) (active_housed g d)) waits before))

pub returns-in-Running-clause-inactive : goal.returns-in-Running-clause-inactive
returns-in-Running-clause-inactive g c =
    let d = (goal.at.returns-in-Running-clause-inactive g c).After-moved-in-Running in
    rw (← c.tables.view_is)
    (inactive_beside c.tables.inside.groups.items c.in-Some.member.group c.args.i c.moved-in-Running.new.group
    ((rw (← c.tables.view_is) at c.requires.there).active_known c.in-Some.member.group c.args.i (ap slot_active_in (active_in_slot g d) ∙ rw c.in-Running.is refl)))

pub returns-in-Running-clause-same : goal.returns-in-Running-clause-same
returns-in-Running-clause-same g c =
    let d = (goal.at.returns-in-Running-clause-same g c).After-moved-in-Running in
    rw (← c.tables.view_is)
    (rw c.moved-in-Running.ensures.seen
    (same_of_active _ _ _ c.args.i c.in-Some.member c.args.back (rw (← c.tables.view_is) at c.requires.there) (active_in_slot g d) c.requires.number (Running c.moved-in-Running.new.self) _ _ (active_alone g d) (active_now g d) (active_same g d) (active_pieces g d) (active_written g d) (active_blocks g d)))

pub returns-in-Running-clause-activity : goal.returns-in-Running-clause-activity
returns-in-Running-clause-activity g c =
    let d = (goal.at.returns-in-Running-clause-activity g c).After-moved-in-Running in
    rw (← c.tables.view_is)
    (λ k.
    group_change c.tables.inside.groups.items c.in-Some.member.group _ (omega (arith, (active_range g d), (rw (← c.tables.view_is) at c.requires.there).group_count)) k
    ∙ activity_stays (activity_at c.tables.inside.groups.items) c.in-Some.member.group _ (rw (active_group_is g d) c.moved-in-Running.ensures.did.group.active) (rw (active_group_is g d) c.moved-in-Running.ensures.did.group.activations) k)

pub returns-in-Running-clause-keeps : goal.returns-in-Running-clause-keeps
returns-in-Running-clause-keeps g c =
    let d = (goal.at.returns-in-Running-clause-keeps g c).After-moved-in-Running in
    rw (← c.tables.view_is)
    (λ w histories keeps.
    rw c.moved-in-Running.ensures.seen
    (keeps_of_active _ _ _ c.args.i c.in-Some.member c.args.back (rw (← c.tables.view_is) at c.requires.there) (active_in_slot g d) c.requires.number (Running c.moved-in-Running.new.self) _ _ (active_alone g d) (active_now g d) (active_same g d) (active_pieces g d) (active_written g d) (active_blocks g d)
    g.M.Ialg.law w histories
    (λ before. c.moved-in-Running.ensures.did.keeps w (histories c.args.i) (rw (active_group_is g d, c.in-Running.is) at before)) keeps))
