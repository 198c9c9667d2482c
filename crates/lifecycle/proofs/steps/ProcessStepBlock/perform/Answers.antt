use Rattle.std.proofs.Common.{rules}
use Rattle.lifecycle.proofs.steps.ProcessStepBlock.perform.Goals as goal

pub returns-clause-done : goal.returns-clause-done
returns-clause-done g c = search rules
