use Rattle.std.proofs.Common.{rules}
use Rattle.alg_biquad.proofs.filter.BiquadFilter.memory.Goals as goal

pub returns-clause-asked : goal.returns-clause-asked
returns-clause-asked c = search rules
