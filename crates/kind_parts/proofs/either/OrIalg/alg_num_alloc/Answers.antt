use Rattle.kind_parts.proofs.either.OrIalg.alg_num_alloc.Goals as goal

pub returns-in-First : goal.returns-in-First
returns-in-First g c = rw c.in-First.is c.alg_num_alloc.ensures

pub returns-in-Second : goal.returns-in-Second
returns-in-Second g c = rw c.in-Second.is c.alg_num_alloc-in-Second.ensures
