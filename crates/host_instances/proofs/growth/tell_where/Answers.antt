use Rattle.mem_rec.specs.declared.TheConstants.{INSTANCES}
use Rattle.host_table.specs.Steps.{told_below}
use Rattle.host_table.proofs.HistoriesGo.{given_told, histories_stay}
use Rattle.host_instances.proofs.growth.tell_where.Goals as goal

pub returns-then-replaced-clause-keeps : goal.returns-then-replaced-clause-keeps
returns-then-replaced-clause-keeps g c w =
    histories_stay g.M.Ialg.law w c.args.tables.now c.call_moved_in_group.new.tables (told_below c.args.g INSTANCES c.args.tables.now) (c.call_moved_in_group.ensures.keeps w)
    (λ logs j. given_told c.args.g INSTANCES c.args.tables.now logs j)
