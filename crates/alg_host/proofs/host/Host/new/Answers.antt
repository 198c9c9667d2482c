use Rattle.alg_host.proofs.host.Host.new.Goals as goal

pub returns-clause-bad_size : goal.returns-clause-bad_size
returns-clause-bad_size g c = λ bad. let never = c.in_ok-memory.ensures.bad_size bad in cc
