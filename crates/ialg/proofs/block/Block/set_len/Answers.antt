use Rattle.std.proofs.Common.{rules, arith}
use Rattle.std.proofs.lemmas.Grind.{common_steps}
use Rattle.ialg.proofs.block.Block.set_len.Goals as goal

pub returns-clause-len : goal.returns-clause-len
returns-clause-len c = search rules

pub returns-clause-kept : goal.returns-clause-kept
returns-clause-kept c = grind (arith, common_steps)
