use Rattle.std.proofs.Common.{◌*◌}
use Rattle.host_shared.specs.declared.locations.TheConstants.{RUN}
use Rattle.host_shared.specs.Sharing.{NameNoOwner}
use Rattle.host_shared.proofs.locations.skip_runs.Given as goal

abbrev pub invariant-loop-run : goal.invariant-loop-run
invariant-loop-run l = NameNoOwner l.sharing.items l.from (RUN * l.run)
