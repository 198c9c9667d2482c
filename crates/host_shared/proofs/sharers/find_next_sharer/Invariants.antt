use Rattle.std.proofs.Common.{◌≡◌, drop}
use Rattle.host_shared.specs.Sharing.{sharer_from, next_sharer}
use Rattle.host_shared.proofs.sharers.find_next_sharer.Given as goal

abbrev pub invariant-loop-j : goal.invariant-loop-j
invariant-loop-j l = next_sharer l.sharing.items l.i l.k ≡ sharer_from l.j (drop l.j l.sharing.items) l.i l.k
