use Rattle.std.proofs.Common.{rules, ◌≡◌, ℕ, ◌<◌, Some, None, set, refl, sym, ◌∙◌, ap, subst}
use Rattle.std.proofs.lemmas.List.{get_or-set_same}
use Rattle.std.proofs.lemmas.Option.{none-some}
use Rattle.lifecycle.specs.declared.instance.Inst.TheVariants.{Idling, Running}
use Rattle.mem_rec.specs.declared.TheConstants.{GROUPS}
use Rattle.host_shared.specs.Locations.{shared_at}
use Rattle.host_table.specs.Table.{group_at, group_of, slot_at, slot_active_in, activity_at, instance_of}
use Rattle.host_table.proofs.Changes.{same_tables, member_of, once_inside, owners_of_slot, read_ok_group, read_later, slot_in, turned, fits_in_slot}
use Rattle.host_table.proofs.Activities.{same_group_of, not_active, none_active_after, activity_after_activation}
use Rattle.host_table.proofs.Stepping.{Change, running_there, ok_in, steps_to, steps_then, steps_told, steps_logged, touched_stays, turned_active, turned_idle, steps_after_step}
use Rattle.host_table.specs.Steps.{active_beside, called_at, unchanged}
use Rattle.ialg.specs.Log.{called, Activate}
use Rattle.host_table.proofs.tables.Tables.activate.Goals as goal
use Rattle.host_table.proofs.tables.Tables.activate.Goals.{After-make_active}
use Rattle.host_table.proofs.tables.Tables.activate.Given.{Over}

pub unreachable-requires : goal.unreachable-requires
unreachable-requires g c =
    let in_slot = read_later _ _ c.args.i c.requires.living (rw (← c.self.view_is) at (c.deactivate_in-deactivated.ensures.step.same.slot c.args.i)) _ c.index_mut.ensures.value ∙ c.in-Some-index_mut.is in
    let group : c.in-Some-index_mut.member.group ≡ c.in-Some.g =
    ap group_of (sym in_slot) ∙ same_group_of _ _ (rw (← c.self.view_is) at (c.deactivate_in-deactivated.ensures.step.same.slot c.args.i)) ∙ sym c.in-Some.ensures.group in
    let there : slot_active_in (slot_at c.self.inside.instances.items c.args.i) ≡ Some c.in-Some.g = rw (in_slot, c.in-Running.is) (ap Some group) in
    let none = none_active_after (activity_at c.args.self.now.groups) (activity_at c.self.inside.groups.items) c.in-Some.g (rw (← c.self.view_is) at c.deactivate_in-deactivated.ensures.step.activity) in
    none-some _ (sym none ∙ (ok_in c.self.view_is c.deactivate_in-deactivated.ensures.step.ok).active_known _ _ there)

pub activate-requires : goal.activate-requires
activate-requires g c =
    let ok = ok_in c.self.view_is c.deactivate_in-deactivated.ensures.step.ok in
    let in_slot = read_later _ _ c.args.i c.requires.living (rw (← c.self.view_is) at (c.deactivate_in-deactivated.ensures.step.same.slot c.args.i)) _ c.index_mut.ensures.value ∙ c.in-Some-index_mut.is in
    let group : c.in-Some-index_mut.member.group ≡ c.in-Some.g =
    ap group_of (sym in_slot) ∙ same_group_of _ _ (rw (← c.self.view_is) at (c.deactivate_in-deactivated.ensures.step.same.slot c.args.i)) ∙ sym c.in-Some.ensures.group in
    let in_range : c.in-Some.g < GROUPS = subst (λ (k : ℕ). k < GROUPS) group (ok.group_range _ _ in_slot) in
    let group_is = read_ok_group _ _ _ ok _ in_range _ c.index_mut-in-Idling.ensures.value in
    record {
      lent = record {
        number = once_inside _ _ _ ok c.args.i _ in_slot;
        owners = owners_of_slot _ _ _ ok c.args.i _ in_slot;
        fits = fits_in_slot _ ok in_slot c.in-Idling.is group refl group_is;
      };
    }

pub deactivate_in-deactivated-requires-clause-range : goal.deactivate_in-deactivated-requires-clause-range
deactivate_in-deactivated-requires-clause-range g c =
    let m = member_of (slot_at c.args.self.now.instances c.args.i) c.requires.living in
    let group : m.0.group ≡ c.in-Some.g = ap group_of (sym m.1) ∙ sym c.in-Some.ensures.group in
    subst (λ (k : ℕ). k < GROUPS) group ((c.requires.ready.ok).group_range c.args.i m.0 m.1)

pub make_active-requires : goal.make_active-requires
make_active-requires g c =
    let in_slot = read_later _ _ c.args.i c.requires.living (rw (← c.self.view_is) at (c.deactivate_in-deactivated.ensures.step.same.slot c.args.i)) _ c.index_mut.ensures.value ∙ c.in-Some-index_mut.is in
    rw (get_or-set_same c.self.inside.instances.items c.args.i (Some (record c.in-Some-index_mut.member { inst = Idling c.activate.new.self })) None (slot_in _ _ _ in_slot)) (search rules)

-- after the deactivation the instance is in the same group, which has no active member
module _ (g : Over) (c : After-make_active g) where
  in_slot : slot_at c.self.inside.instances.items c.args.i ≡ Some c.in-Some-index_mut.member
  in_slot = read_later _ _ c.args.i c.requires.living (rw (← c.self.view_is) at (c.deactivate_in-deactivated.ensures.step.same.slot c.args.i)) _ c.index_mut.ensures.value ∙ c.in-Some-index_mut.is

  group : c.in-Some-index_mut.member.group ≡ c.in-Some.g
  group =
      ap group_of (sym in_slot) ∙ same_group_of _ _ (rw (← c.self.view_is) at (c.deactivate_in-deactivated.ensures.step.same.slot c.args.i)) ∙ sym c.in-Some.ensures.group

  in_range : c.in-Some.g < GROUPS
  in_range = subst (λ (k : ℕ). k < GROUPS) group ((ok_in c.self.view_is c.deactivate_in-deactivated.ensures.step.ok).group_range _ _ in_slot)

  none : (group_at c.self.inside.groups.items c.in-Some.g).active ≡ None
  none = none_active_after (activity_at c.args.self.now.groups) (activity_at c.self.inside.groups.items) c.in-Some.g (rw (← c.self.view_is) at c.deactivate_in-deactivated.ensures.step.activity)

  alone : (j : ℕ) → (group_at c.self.inside.groups.items c.in-Some.g).active ≡ Some j → j ≡ c.args.i
  alone j active = absurd (none-some _ (sym none ∙ active))

  group_is : group_at c.self.inside.groups.items c.in-Some.g ≡ c.index_mut-in-Idling.result.now
  group_is = read_ok_group _ _ _ (ok_in c.self.view_is c.deactivate_in-deactivated.ensures.step.ok) _ in_range _ c.index_mut-in-Idling.ensures.value

  instances : c.make_active.new.instances.items ≡ set c.self.inside.instances.items c.args.i (Some (record { group = c.in-Some.g; inst = Running (record { instance = c.activate.new.self.instance }) }))
  instances =
      rw (← group)
      (turned c.self.inside.instances.items c.args.i (record { group = c.in-Some-index_mut.member.group; inst = Idling c.activate.new.self })
      (λ q. record q { inst = Running (record { instance = instance_of q.inst }) }) c.make_active.new.instances.items (slot_in _ _ _ in_slot) c.make_active.ensures)

  change : Change c.self.inside.instances.items c.self.inside.sharing.items c.self.inside.groups.items c.args.i c.in-Some.g c.in-Some-index_mut.member (Running (record { instance = c.activate.new.self.instance })) (shared_at c.activate.new.sharing.items c.args.i) c.activate.new.group
  change = record {
    ok = (ok_in c.self.view_is c.deactivate_in-deactivated.ensures.step.ok);
    in_slot = in_slot;
    of_group = group;
    alone = alone;
    now = c.activate.ensures.did.active;
    same = rw c.in-Idling.is c.activate.ensures.did.same;
    pieces = c.activate.ensures.did.pieces;
    written = rw c.in-Idling.is c.activate.ensures.did.written;
    blocks = λ space. rw group_is (c.activate.ensures.did.blocks space);
  }

pub returns-clause-active : goal.returns-clause-active
returns-clause-active g c =
    let there : slot_at c.make_active.new.instances.items c.args.i ≡ Some (record { group = c.in-Some.g; inst = Running (record { instance = c.activate.new.self.instance }) }) =
    rw (instances g c) (get_or-set_same c.self.inside.instances.items c.args.i _ None (slot_in _ _ _ (in_slot g c))) in
    running_there _ _ _ there

pub returns-clause-step : goal.returns-clause-step
returns-clause-step g c =
    let ok = c.requires.ready.ok in
    let idle = not_active (group_at c.args.self.now.groups c.in-Some.g).active c.args.i
    (λ active. none-some _ (sym c.in-Some.ensures.idle ∙ ok.active_there _ _ (in_range g c) active)) in
    steps_logged (λ histories. rw (← c.in-Some.ensures.group) (turned_idle (group_at c.args.self.now.groups c.in-Some.g).active c.args.i histories idle))
    (steps_then {then = called_at c.args.i Activate} c.deactivate_in-deactivated.ensures.step
    (rw (← c.self.view_is)
    (steps_to (instances g c) c.activate.ensures.seen
    (steps_after_step (change g c) (rw (← c.self.view_is) at c.deactivate_in-deactivated.ensures.step.poisoned) (λ e. absurd (none-some _ (sym e ∙ c.activate.ensures.did.active)))
    (λ k. rw (← c.in-Some.ensures.group)
    (activity_after_activation (activity_at c.args.self.now.groups) (activity_at c.self.inside.groups.items) c.in-Some.g c.args.i _
    (rw (← c.self.view_is) at c.deactivate_in-deactivated.ensures.step.activity) idle c.activate.ensures.did.active (rw (group_is g c) c.activate.ensures.did.activations) k))
    (λ histories. called Activate (histories c.args.i))
    (λ histories before. c.activate.ensures.did.keeps c.args.poison (histories c.args.i)
    (rw (group_is g c) at ((rw (← c.self.view_is) at c.deactivate_in-deactivated.ensures.step.poisoned) c.in-Some.g (in_range g c) (none g c)))
    (rw c.in-Idling.is at before))))))

pub returns-in_default-clause-step : goal.returns-in_default-clause-step
returns-in_default-clause-step g c =
    let t = c.args.self.now in
    let ready = c.requires.ready in
    let known = ready.ok.active_known _ _ c.in_default.ensures.active in
    steps_logged {first = unchanged} (λ histories. turned_active (active_beside t c.args.i) c.args.i histories known)
    (steps_told (touched_stays (activity_at t.groups) _ c.args.i known)
    (record { ok = ready.ok; poisoned = ready.poisoned; same = same_tables t.instances t.sharing t.groups; activity = λ k. refl; keeps = λ histories kept. kept }))
