use Rattle.dsp_console.proofs.serving.new_host.Goals as goal

pub returns-clause-size : goal.returns-clause-size
returns-clause-size g c = λ bad. let never = c.in_ok-memory.ensures.size bad in cc
