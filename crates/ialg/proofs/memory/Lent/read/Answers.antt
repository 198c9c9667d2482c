use Rattle.ialg.proofs.memory.Lent.read.Goals as goal

pub returns-in-Some : goal.returns-in-Some
returns-in-Some c = (c.in-Some.k, c.in-Some.ensures, c.record.ensures)
