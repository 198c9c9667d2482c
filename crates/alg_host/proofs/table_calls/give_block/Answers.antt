use Rattle.host_table.specs.Refinement.{logs_of}
use Rattle.host_table.specs.Steps.{active_beside}
use Rattle.host_table.proofs.HistoriesGo.{histories_given}
use Rattle.host_moves.proofs.KeptLemmas.{block_given}
use Rattle.alg_host.proofs.table_calls.give_block.Goals as goal

pub returns-clause-machine : goal.returns-clause-machine
returns-clause-machine g c =
    let did = c.process.ensures in
    λ before e kept.
    block_given g.M.Ialg.law c.args.tables.now.instances c.args.tables.now.sharing c.args.tables.now.groups
    c.process.new.self.instances c.process.new.self.sharing c.process.new.self.groups before c.args.i c.args.poison c.args.input.now c.process.new.out.items
    e kept c.requires.living did.step.same did.step.activity
    (histories_given g.M.Ialg.law c.args.poison c.args.tables.now c.process.new.self c.args.i c.args.input.now (active_beside c.args.tables.now c.args.i) did.step.keeps)
    (λ histories was. did.output (logs_of histories was.0) was.1) did.bounded c.requires.some
