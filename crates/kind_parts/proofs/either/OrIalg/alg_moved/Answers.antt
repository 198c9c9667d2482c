use Rattle.kind_parts.proofs.either.OrIalg.alg_moved.Goals as goal

pub returns-in-First-clause-idle : goal.returns-in-First-clause-idle
returns-in-First-clause-idle g c = rw c.in-First.is c.alg_moved.ensures.idle

pub returns-in-First-clause-active : goal.returns-in-First-clause-active
returns-in-First-clause-active g c = rw c.in-First.is c.alg_moved.ensures.active

pub returns-in-Second-clause-idle : goal.returns-in-Second-clause-idle
returns-in-Second-clause-idle g c = rw c.in-Second.is c.alg_moved-in-Second.ensures.idle

pub returns-in-Second-clause-active : goal.returns-in-Second-clause-active
returns-in-Second-clause-active g c = rw c.in-Second.is c.alg_moved-in-Second.ensures.active
