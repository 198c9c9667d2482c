use Rattle.std.proofs.Common.{arith}
use Rattle.voice_channel.proofs.lists.kept.Goals as goal

pub returns : goal.returns
returns c = grind arith
