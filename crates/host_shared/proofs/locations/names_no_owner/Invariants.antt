use Rattle.std.proofs.Common.{◌≡◌, ◌+◌, ◌*◌, false}
use Rattle.host_shared.specs.declared.locations.TheConstants.{RUN}
use Rattle.host_shared.specs.Sharing.{NameNoOwner}
use Rattle.host_shared.proofs.locations.names_no_owner.Given as goal

abbrev pub invariant-loop-t : goal.invariant-loop-t
invariant-loop-t l = l.elsewhere ≡ false → NameNoOwner l.sharing.items (RUN * l.run) (RUN * l.run + l.t)
