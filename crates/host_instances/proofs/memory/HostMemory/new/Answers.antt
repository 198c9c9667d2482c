use Rattle.host_instances.proofs.memory.HostMemory.new.Goals as goal

-- the spaces are there
pub returns-in-Ok-clause-bad_size : goal.returns-in-Ok-clause-bad_size
returns-in-Ok-clause-bad_size g c = λ bad. let never = c.in_ok-spaces.ensures.bad_size bad in cc
