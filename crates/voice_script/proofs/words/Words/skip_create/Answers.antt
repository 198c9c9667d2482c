use Rattle.std.proofs.lemmas.Grind.{common_steps}
use Rattle.std.proofs.Common.{arith}
use Rattle.voice_script.proofs.words.Words.skip_create.Goals as goal

pub returns-clause-create : goal.returns-clause-create
returns-clause-create c = grind (arith, common_steps)
