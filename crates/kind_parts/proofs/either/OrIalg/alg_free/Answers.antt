use Rattle.kind_parts.proofs.either.OrIalg.alg_free.Goals as goal

pub returns-in-First : goal.returns-in-First
returns-in-First g c = rw c.in-First.is c.alg_free.ensures

pub returns-in-Second : goal.returns-in-Second
returns-in-Second g c = rw c.in-Second.is c.alg_free-in-Second.ensures
