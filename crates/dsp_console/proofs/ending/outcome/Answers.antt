use Rattle.std.proofs.Common.{rules}
use Rattle.dsp_console.proofs.ending.outcome.Goals as goal

pub returns-in-Ok-clause-status : goal.returns-in-Ok-clause-status
returns-in-Ok-clause-status c = search rules
