use Rattle.kind_parts.proofs.either.OrIalg.activate_and_process.Goals as goal

pub returns-in-First-clause-law : goal.returns-in-First-clause-law
returns-in-First-clause-law g c = rw c.in-First.is c.activate_and_process.ensures.law

pub returns-in-Second-clause-law : goal.returns-in-Second-clause-law
returns-in-Second-clause-law g c = rw c.in-Second.is c.activate_and_process-in-Second.ensures.law
