use Rattle.std.proofs.Common.{rules}
use Rattle.alg_biquad.proofs.halves.within.Goals as goal

pub returns-then-sum-lt-LIMIT : goal.returns-then-sum-lt-LIMIT
returns-then-sum-lt-LIMIT c = search rules
