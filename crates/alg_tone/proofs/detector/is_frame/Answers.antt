use Rattle.std.proofs.Common.{rules}
use Rattle.alg_tone.proofs.detector.is_frame.Goals as goal

pub returns-then-samples-ge1 : goal.returns-then-samples-ge1
returns-then-samples-ge1 c = search rules
