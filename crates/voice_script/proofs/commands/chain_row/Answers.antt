use Rattle.std.proofs.Common.{arith}
use Rattle.std.proofs.lemmas.Bool.{and_parts}
use Rattle.voice_script.proofs.ReadingLemmas.{unfit}
use Rattle.voice_script.proofs.commands.chain_row.Goals as goal

pub returns-in_err-channel : goal.returns-in_err-channel
returns-in_err-channel c = grind (arith, and_parts, unfit)
