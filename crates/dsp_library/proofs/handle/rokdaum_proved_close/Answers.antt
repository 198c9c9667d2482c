use Rattle.std.proofs.Common.{rules}
use Rattle.dsp_library.proofs.handle.rokdaum_proved_close.Goals as goal

pub returns-clause-handle : goal.returns-clause-handle
returns-clause-handle c = search rules

pub returns-clause-done : goal.returns-clause-done
returns-clause-done c = search rules
