use Rattle.std.proofs.Common.{◌≡◌, ◌<◌, ℕ, Some, refl, sym, ◌∙◌, ap, subst}
use Rattle.std.proofs.lemmas.Option.{none-some}
use Rattle.mem_rec.specs.declared.TheConstants.{GROUPS}
use Rattle.host_table.specs.Table.{slot_at, group_at, group_of, slot_active_in, activity_at}
use Rattle.host_map.specs.Activity.{newly_active}
use Rattle.host_table.proofs.Changes.{later_member, member_of, never_active}
use Rattle.host_table.proofs.Activities.{same_group_of, not_active, none_active_after, activity_after_activation}
use Rattle.host_table.proofs.Housing.{lawful_after}
use Rattle.host_table.proofs.Stepping.{steps_logged, steps_told, steps_then, touched_stays, turned_active, turned_idle}
use Rattle.host_table.specs.Steps.{active_beside, given, rested}
use Rattle.host_table.proofs.Histories.{given_rested}
use Rattle.host_table.proofs.tables.Tables.process.Goals as goal

pub activate_and_run-requires-clause-idle : goal.activate_and_run-requires-clause-idle
activate_and_run-requires-clause-idle g c =
    let m = member_of (slot_at c.args.self.now.instances c.args.i) c.requires.living in
    let later = later_member _ _ m.0 m.1 (c.deactivate_in-deactivated.ensures.step.same.slot c.args.i) in
    let group : c.in-Some.g ≡ later.0.group = c.in-Some.ensures.group ∙ sym (same_group_of _ _ (c.deactivate_in-deactivated.ensures.step.same.slot c.args.i)) ∙ ap group_of later.1.0 in
    let none = none_active_after (activity_at c.args.self.now.groups) (activity_at c.deactivate_in-deactivated.new.self.groups) c.in-Some.g c.deactivate_in-deactivated.ensures.step.activity in
    ap slot_active_in later.1.0
    ∙ never_active later.0.group later.0.inst
    (λ there. none-some _ (sym none ∙ subst (λ (k : ℕ). (group_at c.deactivate_in-deactivated.new.self.groups k).active ≡ Some c.args.i) (sym group) (c.deactivate_in-deactivated.ensures.step.ok.active_known _ _ (ap slot_active_in later.1.0 ∙ there))))

pub returns-clause-step : goal.returns-clause-step
returns-clause-step g c =
    let m = member_of (slot_at c.args.self.now.instances c.args.i) c.requires.living in
    let group : m.0.group ≡ c.in-Some.g = ap group_of (sym m.1) ∙ sym c.in-Some.ensures.group in
    let in_range : c.in-Some.g < GROUPS = subst (λ (k : ℕ). k < GROUPS) group (c.requires.ready.ok.group_range c.args.i m.0 m.1) in
    let idle = not_active (group_at c.args.self.now.groups c.in-Some.g).active c.args.i
    (λ active. none-some _ (sym c.in-Some.ensures.idle ∙ c.requires.ready.ok.active_there _ _ in_range active)) in
    steps_logged
    (λ histories. rw (← c.in-Some.ensures.group) (ap (given c.args.i c.args.input.now) (turned_idle (group_at c.args.self.now.groups c.in-Some.g).active c.args.i histories idle)))
    (steps_told
    (λ k. rw (← c.in-Some.ensures.group)
    (activity_after_activation (activity_at c.args.self.now.groups) (activity_at c.deactivate_in-deactivated.new.self.groups) c.in-Some.g c.args.i
    (newly_active c.args.i (activity_at c.deactivate_in-deactivated.new.self.groups c.in-Some.g)) c.deactivate_in-deactivated.ensures.step.activity idle refl refl k))
    (steps_then c.deactivate_in-deactivated.ensures.step (c.activate_and_run.ensures.step c.args.poison c.deactivate_in-deactivated.ensures.step.poisoned)))

pub returns-clause-output : goal.returns-clause-output
returns-clause-output g c histories keeps m at lawful =
    let later = later_member _ _ m at (c.deactivate_in-deactivated.ensures.step.same.slot c.args.i) in
    let same = later.1.1 in
    let active = (activity_at c.args.self.now.groups c.in-Some.g).active in
    rw (same.kind, same.params, given_rested active histories c.args.i) at
    (c.activate_and_run.ensures.output c.args.poison c.deactivate_in-deactivated.ensures.step.poisoned (rested active histories) (c.deactivate_in-deactivated.ensures.step.keeps histories keeps) later.0 later.1.0
    (lawful_after g.M.Ialg.law.meaning _ _ c.args.poison same lawful))

pub returns-in_default-clause-step : goal.returns-in_default-clause-step
returns-in_default-clause-step g c =
    let known = c.requires.ready.ok.active_known _ _ c.in_default.ensures.active in
    steps_logged (λ histories. ap (given c.args.i c.args.input.now) (turned_active (active_beside c.args.self.now c.args.i) c.args.i histories known))
    (steps_told (touched_stays (activity_at c.args.self.now.groups) _ c.args.i known)
    (c.run.ensures.step c.args.poison c.requires.ready.poisoned))

pub deactivate_in-deactivated-requires-clause-range : goal.deactivate_in-deactivated-requires-clause-range
deactivate_in-deactivated-requires-clause-range g c =
    let m = member_of (slot_at c.args.self.now.instances c.args.i) c.requires.living in
    let group : m.0.group ≡ c.in-Some.g = ap group_of (sym m.1) ∙ sym c.in-Some.ensures.group in
    subst (λ (k : ℕ). k < GROUPS) group (c.requires.ready.ok.group_range c.args.i m.0 m.1)

pub deactivate_in-deactivated-requires-clause-ready : goal.deactivate_in-deactivated-requires-clause-ready
deactivate_in-deactivated-requires-clause-ready g c = c.requires.ready

pub activate_and_run-requires-clause-living : goal.activate_and_run-requires-clause-living
activate_and_run-requires-clause-living g c =
    let m = member_of (slot_at c.args.self.now.instances c.args.i) c.requires.living in
    let later = later_member _ _ m.0 m.1 (c.deactivate_in-deactivated.ensures.step.same.slot c.args.i) in
    rw later.1.0 refl

pub activate_and_run-requires-clause-group : goal.activate_and_run-requires-clause-group
activate_and_run-requires-clause-group g c =
    c.in-Some.ensures.group ∙ sym (same_group_of _ _ (c.deactivate_in-deactivated.ensures.step.same.slot c.args.i))

pub activate_and_run-requires-clause-resting : goal.activate_and_run-requires-clause-resting
activate_and_run-requires-clause-resting g c =
    none_active_after (activity_at c.args.self.now.groups) (activity_at c.deactivate_in-deactivated.new.self.groups) c.in-Some.g c.deactivate_in-deactivated.ensures.step.activity

pub activate_and_run-requires-clause-ok : goal.activate_and_run-requires-clause-ok
activate_and_run-requires-clause-ok g c = c.deactivate_in-deactivated.ensures.step.ok

pub returns-clause-bounded : goal.returns-clause-bounded
returns-clause-bounded g c = c.activate_and_run.ensures.bounded

pub run-requires-clause-active : goal.run-requires-clause-active
run-requires-clause-active g c = c.in_default.ensures.active

pub run-requires-clause-ok : goal.run-requires-clause-ok
run-requires-clause-ok g c = c.requires.ready.ok

pub returns-in_default-clause-bounded : goal.returns-in_default-clause-bounded
returns-in_default-clause-bounded g c = c.run.ensures.bounded

pub returns-in_default-clause-output : goal.returns-in_default-clause-output
returns-in_default-clause-output g c = c.run.ensures.output c.args.poison
