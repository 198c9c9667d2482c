use Rattle.ialg.proofs.memory.Lent.take_object.Goals as goal

pub returns-clause-value : goal.returns-clause-value
returns-clause-value c = c.take_loan.ensures.value
