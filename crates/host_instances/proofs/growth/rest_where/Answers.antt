use Rattle.host_table.specs.Table.{group_at}
use Rattle.host_table.specs.Steps.{rested}
use Rattle.host_table.proofs.Histories.{given_rested}
use Rattle.host_table.proofs.HistoriesGo.{histories_stay}
use Rattle.host_moves.proofs.Owners.{members_of_same}
use Rattle.host_instances.proofs.growth.rest_where.Goals as goal

pub returns-then-replaced-clause-same : goal.returns-then-replaced-clause-same
returns-then-replaced-clause-same g c = members_of_same c.deactivate_by_call-was_active.ensures.step.same

pub returns-then-replaced-clause-keeps : goal.returns-then-replaced-clause-keeps
returns-then-replaced-clause-keeps g c =
    let active = (group_at c.args.tables.now.groups c.args.g).active in
    histories_stay g.M.Ialg.law c.args.poison c.args.tables.now c.deactivate_by_call-was_active.new.self (rested active) c.deactivate_by_call-was_active.ensures.step.keeps
    (λ logs j. given_rested active logs j)
