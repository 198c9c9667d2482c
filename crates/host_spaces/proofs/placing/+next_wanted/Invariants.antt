-- One entry less is left.
use Rattle.std.proofs.Common.{◌-◌, length}
use Rattle.host_spaces.proofs.placing.+next_wanted.Given as goal

abbrev pub decreases-next_wanted : goal.decreases-next_wanted
decreases-next_wanted l = length l.wants.now - l.k
