use Rattle.std.proofs.Common.{length}
use Rattle.dsp_program.proofs.serving.+open_pairs.Given as goal

abbrev pub decreases-open_pairs : goal.decreases-open_pairs
decreases-open_pairs g l = length l.pairs.now
