use Rattle.std.proofs.Common.{rules}
use Rattle.dsp_library.proofs.codes.tell_space.Goals as goal

pub returns-in-External : goal.returns-in-External
returns-in-External c = search rules
