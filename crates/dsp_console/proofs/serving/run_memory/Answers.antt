use Rattle.std.proofs.Common.{rules}
use Rattle.dsp_console.proofs.serving.run_memory.Goals as goal

pub returns-in-Ok-clause-size : goal.returns-in-Ok-clause-size
returns-in-Ok-clause-size g c = λ bad. let never = c.in-Ok.ensures.bad_size bad in cc

pub returns-in-Err-BadSize-clause-size : goal.returns-in-Err-BadSize-clause-size
returns-in-Err-BadSize-clause-size g c = search rules
