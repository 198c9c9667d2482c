use Rattle.kind_parts.proofs.either.OrIalg.alg_alloc.Goals as goal

pub returns-in-First-clause-law : goal.returns-in-First-clause-law
returns-in-First-clause-law g c = rw c.in-First.is c.alg_alloc.ensures.law

pub returns-in-First-clause-bounded : goal.returns-in-First-clause-bounded
returns-in-First-clause-bounded g c = rw c.in-First.is c.alg_alloc.ensures.bounded

pub returns-in-First-clause-unplaced : goal.returns-in-First-clause-unplaced
returns-in-First-clause-unplaced g c = rw c.in-First.is c.alg_alloc.ensures.unplaced

pub returns-in-Second-clause-law : goal.returns-in-Second-clause-law
returns-in-Second-clause-law g c = rw c.in-Second.is c.alg_alloc-in-Second.ensures.law

pub returns-in-Second-clause-bounded : goal.returns-in-Second-clause-bounded
returns-in-Second-clause-bounded g c = rw c.in-Second.is c.alg_alloc-in-Second.ensures.bounded

pub returns-in-Second-clause-unplaced : goal.returns-in-Second-clause-unplaced
returns-in-Second-clause-unplaced g c = rw c.in-Second.is c.alg_alloc-in-Second.ensures.unplaced
