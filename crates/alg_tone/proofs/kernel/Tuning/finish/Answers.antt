use Rattle.std.proofs.Common.{rules}
use Rattle.alg_tone.proofs.kernel.Tuning.finish.Goals as goal

pub returns-then-frame-self-clause-full : goal.returns-then-frame-self-clause-full
returns-then-frame-self-clause-full c = search rules
