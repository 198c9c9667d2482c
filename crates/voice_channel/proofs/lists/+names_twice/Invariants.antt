use Rattle.std.proofs.Common.{length}
use Rattle.voice_channel.proofs.lists.+names_twice.Given as goal

abbrev pub decreases-names_twice : goal.decreases-names_twice
decreases-names_twice l = length l.members.now
