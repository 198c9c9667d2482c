use Rattle.std.proofs.lemmas.Grind.{common_steps}
use Rattle.std.proofs.Common.{arith}
use Rattle.voice_script.proofs.numbers.value_of.Goals as goal

pub returns-in_ok-magnitude-in-45 : goal.returns-in_ok-magnitude-in-45
returns-in_ok-magnitude-in-45 c = grind (arith, common_steps)
