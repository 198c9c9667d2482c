use Rattle.std.proofs.Common.{arith}
use Rattle.ialg.proofs.refusal.Refusal.number.Goals as goal

pub returns-in-Short : goal.returns-in-Short
returns-in-Short c = grind arith
