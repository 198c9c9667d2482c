use Rattle.alg_host.proofs.ListLemmas.{MadeUpTo}
use Rattle.alg_host.proofs.lists.make_all.Given as goal

abbrev pub invariant-loop-k : goal.invariant-loop-k
invariant-loop-k g l = MadeUpTo g.M.Ialg.law l.k l.fn.requests l.requests l.fn.host l.host
