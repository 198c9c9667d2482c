use Rattle.std.proofs.Common.{length}
use Rattle.test_lives.proofs.alone.end_alone.Given as goal

abbrev pub decreases-loop-locations : goal.decreases-loop-locations
decreases-loop-locations g l = length l.left.items
