use Rattle.std.proofs.Common.{length}
use Rattle.voice_channel.proofs.feeding.+pass_on.Given as goal

abbrev pub decreases-pass_on : goal.decreases-pass_on
decreases-pass_on g l = length l.further.now
