use Rattle.std.proofs.Common.{rules, ◌≡◌, ◌<◌, ℕ, Some, None, length, set, refl, sym, ◌∙◌}
use Rattle.std.proofs.lemmas.List.{get_or-set_same}
use Rattle.std.proofs.lemmas.Option.{same_Some, none-some}
use Rattle.lifecycle.specs.declared.instance.Inst.TheVariants.{Idling, Running}
use Rattle.host_table.specs.Table.{slot_at, group_at, slot_active_in, instance_of, activity_at}
use Rattle.host_map.specs.Activity.{deactivated}
use Rattle.host_shared.specs.Locations.{shared_at}
use Rattle.host_table.proofs.Changes.{owners_of_slot, read_ok_group, read_active, read_alone, read_slot, once_inside, active_inside, turned, fits_in_slot}
use Rattle.host_table.proofs.Activities.{same_activity}
use Rattle.host_table.proofs.Stepping.{Change, ok_in, rested_known, steps_logged, steps_to, steps_after_step}
use Rattle.host_table.proofs.tables.Tables.deactivate_in.Goals as goal
use Rattle.host_table.proofs.tables.Tables.deactivate_in.Goals.{After-make_idle}
use Rattle.host_table.proofs.tables.Tables.deactivate_in.Given.{Over}

pub index_mut-requires : goal.index_mut-requires
index_mut-requires g c =
    let there = read_active _ _ _ (ok_in c.self.view_is c.requires.ready.ok) _ _ c.requires.range _ c.index.ensures (sym c.active.ensures ∙ c.in-Some.is) in
    let inside : c.in-Some.i < length c.self.inside.instances.items = active_inside c.self.inside.instances.items c.in-Some.i c.args.g there in
    search (inside, rules)

pub unreachable-requires-in-None : goal.unreachable-requires-in-None
unreachable-requires-in-None g c =
    let there = read_active _ _ _ (ok_in c.self.view_is c.requires.ready.ok) _ _ c.requires.range _ c.index.ensures (sym c.active.ensures ∙ c.in-Some.is) in
    let empty = read_slot c.self.inside.instances.items c.in-Some.i c.args.g there _ c.index_mut.ensures.value ∙ c.in-None.is in
    none-some _ (rw empty at there)

pub unreachable-requires : goal.unreachable-requires
unreachable-requires g c =
    let there = read_active _ _ _ (ok_in c.self.view_is c.requires.ready.ok) _ _ c.requires.range _ c.index.ensures (sym c.active.ensures ∙ c.in-Some.is) in
    let in_slot = read_slot c.self.inside.instances.items c.in-Some.i c.args.g there _ c.index_mut.ensures.value ∙ c.in-Some-index_mut.is in
    none-some _ (rw (in_slot, c.in-Idling.is) at there)

pub deactivate-requires : goal.deactivate-requires
deactivate-requires g c =
    let ok = (ok_in c.self.view_is c.requires.ready.ok) in
    let there = read_active _ _ _ ok _ _ c.requires.range _ c.index.ensures (sym c.active.ensures ∙ c.in-Some.is) in
    let in_slot = read_slot c.self.inside.instances.items c.in-Some.i c.args.g there _ c.index_mut.ensures.value ∙ c.in-Some-index_mut.is in
    let group : c.in-Some-index_mut.member.group ≡ c.args.g = same_Some _ _ (rw (in_slot, c.in-Running.is) at there) in
    let group_is = read_ok_group _ _ _ ok _ c.requires.range _ c.index_mut-in-Running.ensures.value in
    record {
      lent = record {
        number = once_inside _ _ _ ok c.in-Some.i _ in_slot;
        owners = owners_of_slot _ _ _ ok _ _ in_slot;
        fits = fits_in_slot _ ok in_slot c.in-Running.is group refl group_is;
      };
    }

pub make_idle-requires : goal.make_idle-requires
make_idle-requires g c =
    let there = read_active _ _ _ (ok_in c.self.view_is c.requires.ready.ok) _ _ c.requires.range _ c.index.ensures (sym c.active.ensures ∙ c.in-Some.is) in
    rw (get_or-set_same c.self.inside.instances.items c.in-Some.i (Some (record c.in-Some-index_mut.member { inst = Running c.deactivate.new.self })) None (active_inside c.self.inside.instances.items c.in-Some.i c.args.g there)) (search rules)

-- the active member stands in its slot, and is active there
module _ (g : Over) (c : After-make_idle g) where
  there : slot_active_in (slot_at c.self.inside.instances.items c.in-Some.i) ≡ Some c.args.g
  there = read_active _ _ _ (ok_in c.self.view_is c.requires.ready.ok) _ _ c.requires.range _ c.index.ensures (sym c.active.ensures ∙ c.in-Some.is)

  in_slot : slot_at c.self.inside.instances.items c.in-Some.i ≡ Some c.in-Some-index_mut.member
  in_slot = read_slot c.self.inside.instances.items c.in-Some.i c.args.g there _ c.index_mut.ensures.value ∙ c.in-Some-index_mut.is

  of_group : c.in-Some-index_mut.member.group ≡ c.args.g
  of_group = same_Some _ _ (rw (in_slot, c.in-Running.is) at there)

  alone : (j : ℕ) → (group_at c.self.inside.groups.items c.args.g).active ≡ Some j → j ≡ c.in-Some.i
  alone = read_alone _ _ _ (ok_in c.self.view_is c.requires.ready.ok) _ _ c.requires.range _ c.index.ensures (sym c.active.ensures ∙ c.in-Some.is)

  group_is : group_at c.self.inside.groups.items c.args.g ≡ c.index_mut-in-Running.result.now
  group_is = read_ok_group _ _ _ (ok_in c.self.view_is c.requires.ready.ok) _ c.requires.range _ c.index_mut-in-Running.ensures.value

  instances : c.make_idle.new.instances.items ≡ set c.self.inside.instances.items c.in-Some.i (Some (record { group = c.args.g; inst = Idling (record { instance = c.deactivate.new.self.instance }) }))
  instances =
      rw (← of_group)
      (turned c.self.inside.instances.items c.in-Some.i (record { group = c.in-Some-index_mut.member.group; inst = Running c.deactivate.new.self })
      (λ q. record q { inst = Idling (record { instance = instance_of q.inst }) }) c.make_idle.new.instances.items (active_inside c.self.inside.instances.items c.in-Some.i c.args.g there) c.make_idle.ensures)

  change : Change c.self.inside.instances.items c.self.inside.sharing.items c.self.inside.groups.items c.in-Some.i c.args.g c.in-Some-index_mut.member (Idling (record { instance = c.deactivate.new.self.instance })) (shared_at c.deactivate.new.sharing.items c.in-Some.i) c.deactivate.new.group
  change = record {
    ok = (ok_in c.self.view_is c.requires.ready.ok);
    in_slot = in_slot;
    of_group = of_group;
    alone = alone;
    now = c.deactivate.ensures.did.active;
    same = rw c.in-Running.is c.deactivate.ensures.did.same;
    pieces = c.deactivate.ensures.did.pieces;
    written = rw c.in-Running.is c.deactivate.ensures.did.written;
    blocks = λ space. rw group_is (c.deactivate.ensures.did.blocks space);
  }

pub returns-clause-step : goal.returns-clause-step
returns-clause-step g c =
    rw (← c.self.view_is)
    (steps_logged (λ histories. rested_known (group_at c.self.inside.groups.items c.args.g).active c.in-Some.i histories ((ok_in c.self.view_is c.requires.ready.ok).active_known _ _ (there g c)))
    (steps_to (instances g c) c.deactivate.ensures.seen
    (steps_after_step (change g c) (rw (← c.self.view_is) at c.requires.ready.poisoned) (λ e. c.deactivate.ensures.did.poisoned)
    (same_activity (activity_at c.self.inside.groups.items) c.args.g _ (deactivated (activity_at c.self.inside.groups.items c.args.g)) c.deactivate.ensures.did.active (rw (group_is g c) c.deactivate.ensures.did.activations))
    _ (λ histories before. c.deactivate.ensures.did.keeps c.args.poison (histories c.in-Some.i) (rw (group_is g c, c.in-Running.is) at before)))))
