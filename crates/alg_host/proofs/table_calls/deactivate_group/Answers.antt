use Rattle.std.proofs.Common.{◌<◌, arith}
use Rattle.host_table.specs.Table.{activity_at}
use Rattle.host_table.specs.Steps.{rested}
use Rattle.host_table.proofs.Histories.{given_rested}
use Rattle.host_table.proofs.HistoriesGo.{histories_stay}
use Rattle.host_moves.proofs.KeptLemmas.{deactivated_kept, rest_answered}
use Rattle.alg_host.proofs.table_calls.deactivate_group.Goals as goal

pub returns-clause-machine : goal.returns-clause-machine
returns-clause-machine g c =
    let did = c.deactivate_in.ensures in
    let lt : c.args.g < 8 = omega arith in
    let active = (activity_at c.args.tables.now.groups c.args.g).active in
    λ before e kept. (
      _,
      rest_answered g.M.Ialg.law c.args.tables.now.instances c.args.tables.now.sharing c.args.tables.now.groups
          c.deactivate_in.new.self.instances c.deactivate_in.new.self.sharing c.deactivate_in.new.self.groups before 0 c.args.g c.deactivate_in.result lt kept did.active,
      deactivated_kept g.M.Ialg.law c.args.tables.now.instances c.args.tables.now.sharing c.args.tables.now.groups
          c.deactivate_in.new.self.instances c.deactivate_in.new.self.sharing c.deactivate_in.new.self.groups before 0 c.args.poison c.args.g e kept did.step.same did.step.activity
          (histories_stay g.M.Ialg.law c.args.poison c.args.tables.now c.deactivate_in.new.self (rested active) did.step.keeps (λ logs j. given_rested active logs j)),
    )
