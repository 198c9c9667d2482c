use Rattle.std.proofs.Common.{arith}
use Rattle.std.proofs.lemmas.Grind.{common_steps}
use Rattle.voice_channel.proofs.channels.Channels.chaining_refusal.Goals as goal

pub returns-then-has_member-clause-refusal : goal.returns-then-has_member-clause-refusal
returns-then-has_member-clause-refusal g c = grind (arith, common_steps)

pub returns-clause-refusal : goal.returns-clause-refusal
returns-clause-refusal g c = grind (arith, common_steps)
