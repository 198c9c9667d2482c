use Rattle.ialg.specs.History.{with_samples}
use Rattle.ialg.specs.Loans.{lent_words}
use Rattle.ialg.proofs.Histories.{IsWordHistory-with_samples}
use Rattle.alg_g711.proofs.Outputs.{outputs_of_block}
use Rattle.alg_g711.proofs.Keeping.{goes_on}
use Rattle.alg_g711.proofs.kind.G711Ialg.process.Goals as goal

pub returns-clause-law : goal.returns-clause-law
returns-clause-law c p w l lawful closed lent keeps =
    let h = l.history in
    let m = c.args.mem.now in
    let xs = c.args.input.now in
    let words = IsWordHistory-with_samples h xs keeps.history (c.run.ensures.read p h keeps lent) in (
      goes_on p m.table.now (lent_words m) h (with_samples h xs) words keeps,
      outputs_of_block p keeps.coder h xs c.run.new.out.items keeps.granted (c.run.ensures.law p h keeps lent),
    )
