use Rattle.scratch_group.specs.declared.group.Group.{Group}
use Rattle.scratch_group.specs.Words.{DoneActive}
use Rattle.scratch_group.proofs.Cutting.{active_lent, active_fits}
use Rattle.scratch_group.proofs.group.Group.lend.Goals as goal

pub lend_with_blocks-requires-clause-fit : goal.lend_with_blocks-requires-clause-fit
lend_with_blocks-requires-clause-fit g c =
    active_fits c.args.table.now c.active_plan-plan.result c.args.own.now c.args.shared.now c.args.self.now
    c.active_plan-plan.ensures.value c.active_plan-plan.ensures.table c.requires.sizes

pub returns-clause-done : goal.returns-clause-done
returns-clause-done g c =
    let new : Group = record { daram = c.lend_with_blocks.new.daram; saram = c.lend_with_blocks.new.saram; external = c.lend_with_blocks.new.external; active = c.args.self.now.active; activations = c.args.self.now.activations } in
    let plan = c.active_plan-plan.result in
    let value = c.active_plan-plan.ensures.value in
    let valid = c.active_plan-plan.ensures.table in
    let before = active_lent c.args.table.now plan c.args.own.now c.args.shared.now c.args.self.now value valid in
    let after = active_lent c.args.table.now plan c.lend_with_blocks.new.own c.lend_with_blocks.new.shared new value valid in
    rw (← before, ← after, DoneActive) c.lend_with_blocks.ensures.done
