use Rattle.std.proofs.Common.{arith}
use Rattle.voice_script.proofs.commands.parse.Goals as goal

pub returns : goal.returns
returns c = grind arith
