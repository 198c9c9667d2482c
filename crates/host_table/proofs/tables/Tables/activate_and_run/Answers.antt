use Rattle.std.proofs.Common.{◌≡◌, ℕ, ◌<◌, None, Some, get_or-set_same, rules, set, refl, sym, ◌∙◌, ap, subst}
use Rattle.std.proofs.lemmas.Option.{same_Some, none-some}
use Rattle.lifecycle.specs.declared.instance.Inst.TheVariants.{Idling, Running}
use Rattle.mem_rec.specs.declared.TheConstants.{GROUPS}
use Rattle.host_shared.specs.Locations.{shared_at}
use Rattle.host_table.specs.Table.{group_at, group_of, slot_at, slot_active_in, activity_at, instance_of}
use Rattle.host_map.specs.Activity.{newly_active}
use Rattle.ialg.specs.Log.{called, fed, Activate}
use Rattle.host_table.proofs.Histories.{given_at_once}
use Rattle.host_table.proofs.Changes.{once_inside, owners_of_slot, read_ok_group, read_there, member_of, slot_in, turned, kept_in_slot, fits_in_slot}
use Rattle.host_table.proofs.Activities.{same_activity}
use Rattle.host_table.proofs.Stepping.{Change, ok_in, steps_logged, steps_to, steps_after_step}
use Rattle.host_table.proofs.tables.Tables.activate_and_run.Goals as goal
use Rattle.host_table.proofs.tables.Tables.activate_and_run.Goals.{After-make_active}
use Rattle.host_table.proofs.tables.Tables.activate_and_run.Given.{Over}

pub unreachable-requires : goal.unreachable-requires
unreachable-requires g c =
    let m = member_of (slot_at c.self.inside.instances.items c.args.i) (rw (← c.self.view_is) at c.requires.living) in
    let in_slot = read_there c.self.inside.instances.items c.args.i m.0 m.1 _ c.index_mut.ensures.value ∙ c.in-Some.is in
    let there : slot_active_in (slot_at c.self.inside.instances.items c.args.i) ≡ Some c.in-Some.member.group = rw (in_slot, c.in-Running.is) refl in
    none-some _ (sym (rw (← c.self.view_is) at c.requires.idle) ∙ there)

pub activate_and_run-requires-clause-lent : goal.activate_and_run-requires-clause-lent
activate_and_run-requires-clause-lent g c =
    let ok = (ok_in c.self.view_is c.requires.ok) in
    let m = member_of (slot_at c.self.inside.instances.items c.args.i) (rw (← c.self.view_is) at c.requires.living) in
    let in_slot = read_there c.self.inside.instances.items c.args.i m.0 m.1 _ c.index_mut.ensures.value ∙ c.in-Some.is in
    let group : c.in-Some.member.group ≡ c.args.g = ap group_of (sym in_slot) ∙ sym (rw (← c.self.view_is) at c.requires.group) in
    let in_range : c.args.g < GROUPS = subst (λ (k : ℕ). k < GROUPS) group (ok.group_range c.args.i c.in-Some.member in_slot) in
    let group_is = read_ok_group _ _ _ ok _ in_range _ c.index_mut-in-Idling.ensures.value in
    record {
      number = once_inside _ _ _ ok c.args.i _ in_slot;
      owners = owners_of_slot _ _ _ ok _ _ in_slot;
      fits = fits_in_slot _ ok in_slot c.in-Idling.is group refl group_is;
    }

pub make_active-requires : goal.make_active-requires
make_active-requires g c =
    let m = member_of (slot_at c.self.inside.instances.items c.args.i) (rw (← c.self.view_is) at c.requires.living) in
    let in_slot = read_there c.self.inside.instances.items c.args.i m.0 m.1 _ c.index_mut.ensures.value ∙ c.in-Some.is in
    rw (get_or-set_same c.self.inside.instances.items c.args.i (Some (record c.in-Some.member { inst = Idling c.activate_and_run.new.self })) None (slot_in _ _ _ in_slot)) (search rules)

-- the instance stands in its slot, and its group has no active member
module _ (g : Over) (c : After-make_active g) where
  in_slot : slot_at c.self.inside.instances.items c.args.i ≡ Some c.in-Some.member
  in_slot = let m = member_of (slot_at c.self.inside.instances.items c.args.i) (rw (← c.self.view_is) at c.requires.living) in read_there c.self.inside.instances.items c.args.i m.0 m.1 _ c.index_mut.ensures.value ∙ c.in-Some.is

  group : c.in-Some.member.group ≡ c.args.g
  group = ap group_of (sym in_slot) ∙ sym (rw (← c.self.view_is) at c.requires.group)

  in_range : c.args.g < GROUPS
  in_range = subst (λ (k : ℕ). k < GROUPS) group ((ok_in c.self.view_is c.requires.ok).group_range c.args.i c.in-Some.member in_slot)

  alone : (j : ℕ) → (group_at c.self.inside.groups.items c.args.g).active ≡ Some j → j ≡ c.args.i
  alone j active = absurd (none-some _ (sym (rw (← c.self.view_is) at c.requires.resting) ∙ active))

  group_is : group_at c.self.inside.groups.items c.args.g ≡ c.index_mut-in-Idling.result.now
  group_is = read_ok_group _ _ _ (ok_in c.self.view_is c.requires.ok) _ in_range _ c.index_mut-in-Idling.ensures.value

  instances : c.make_active.new.instances.items ≡ set c.self.inside.instances.items c.args.i (Some (record { group = c.args.g; inst = Running (record { instance = c.activate_and_run.new.self.instance }) }))
  instances =
      rw (← group)
      (turned c.self.inside.instances.items c.args.i (record { group = c.in-Some.member.group; inst = Idling c.activate_and_run.new.self })
      (λ q. record q { inst = Running (record { instance = instance_of q.inst }) }) c.make_active.new.instances.items (slot_in _ _ _ in_slot) c.make_active.ensures)

  change : Change c.self.inside.instances.items c.self.inside.sharing.items c.self.inside.groups.items c.args.i c.args.g c.in-Some.member (Running (record { instance = c.activate_and_run.new.self.instance })) (shared_at c.activate_and_run.new.sharing.items c.args.i) c.activate_and_run.new.group
  change = record {
    ok = (ok_in c.self.view_is c.requires.ok);
    in_slot = in_slot;
    of_group = group;
    alone = alone;
    now = c.activate_and_run.ensures.did.active;
    same = rw c.in-Idling.is c.activate_and_run.ensures.did.same;
    pieces = c.activate_and_run.ensures.did.pieces;
    written = rw c.in-Idling.is c.activate_and_run.ensures.did.written;
    blocks = λ space. rw group_is (c.activate_and_run.ensures.did.blocks space);
  }

pub returns-clause-step : goal.returns-clause-step
returns-clause-step g c w poisoned =
    rw (← c.self.view_is)
    (steps_logged (λ histories at j. given_at_once c.args.i c.args.input.now histories j at)
    (steps_to (instances g c) c.activate_and_run.ensures.seen
    (steps_after_step (change g c) (rw (← c.self.view_is) at poisoned) (λ e. absurd (none-some _ (sym e ∙ c.activate_and_run.ensures.did.active)))
    (same_activity (activity_at c.self.inside.groups.items) c.args.g _ (newly_active c.args.i (activity_at c.self.inside.groups.items c.args.g)) c.activate_and_run.ensures.did.active (rw (group_is g c) c.activate_and_run.ensures.did.activations))
    (λ histories. fed (called Activate (histories c.args.i)) c.args.input.now)
    (λ histories before. c.activate_and_run.ensures.did.keeps w (histories c.args.i)
    (rw (group_is g c) at ((rw (← c.self.view_is) at poisoned) c.args.g (in_range g c) (rw (← c.self.view_is) at c.requires.resting))) (rw c.in-Idling.is at before)))))

pub returns-clause-output : goal.returns-clause-output
returns-clause-output g c w poisoned histories keeps m at lawful =
    let is : c.in-Some.member ≡ m = same_Some _ _ (sym (in_slot g c) ∙ (rw (← c.self.view_is) at at)) in
    let inst : m.inst ≡ Idling c.in-Idling.idle = ap (λ q. q.inst) (sym is) ∙ c.in-Idling.is in
    let kept = kept_in_slot _ _ _ _ (in_slot g c) c.in-Idling.is refl refl g.M.Ialg.law w histories (rw (← c.self.view_is) at keeps) in
    rw inst
    (c.activate_and_run.ensures.did.output w (histories c.args.i) (rw inst at lawful)
    (rw (group_is g c) at ((rw (← c.self.view_is) at poisoned) c.args.g (in_range g c) (rw (← c.self.view_is) at c.requires.resting))) kept)
