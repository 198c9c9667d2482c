-- One entry less is left.
use Rattle.std.proofs.Common.{◌+◌, ◌-◌, ◌*◌}
use Rattle.host_spaces.proofs.placing.+placing.Given as goal

abbrev pub decreases-place_from : goal.decreases-place_from
decreases-place_from l = 2 * (7 - l.k) + 1

abbrev pub decreases-place_at : goal.decreases-place_at
decreases-place_at l = 2 * (7 - l.k)
