use Rattle.ialg.proofs.lending.process_apart.Goals as goal

pub returns-clause-law : goal.returns-clause-law
returns-clause-law g c = rw c.take_all-apart.ensures at c.process.ensures.law
