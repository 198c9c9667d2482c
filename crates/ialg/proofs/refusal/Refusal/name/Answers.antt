use Rattle.std.proofs.Common.{rules}
use Rattle.ialg.proofs.refusal.Refusal.name.Goals as goal

pub returns-in-Busy : goal.returns-in-Busy
returns-in-Busy c = search rules
