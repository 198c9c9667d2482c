use Rattle.scratch_group.specs.Words.{DoneIdle}
use Rattle.scratch_group.proofs.Cutting.{idle_lent, idle_fits}
use Rattle.scratch_group.proofs.lasting.lend_lasting.Goals as goal

pub lend_without_blocks-requires-clause-fit : goal.lend_without_blocks-requires-clause-fit
lend_without_blocks-requires-clause-fit g c =
    idle_fits c.args.loan.now.table.now c.idle_plan-plan.result c.args.own.now c.args.shared.now
    c.idle_plan-plan.ensures.value c.idle_plan-plan.ensures.table c.requires.sizes

pub returns-clause-done : goal.returns-clause-done
returns-clause-done g c =
    let plan = c.idle_plan-plan.result in
    let value = c.idle_plan-plan.ensures.value in
    let valid = c.idle_plan-plan.ensures.table in
    let before = idle_lent c.args.loan.now.table.now plan c.args.own.now c.args.shared.now value valid in
    let after = idle_lent c.args.loan.now.table.now plan c.lend_without_blocks.new.own c.lend_without_blocks.new.shared value valid in
    rw (← before, ← after, DoneIdle) c.lend_without_blocks.ensures.done
