use Rattle.std.proofs.Common.{◌≡◌, refl}
use Rattle.host_shared.specs.declared.locations.Locations.{Locations}
use Rattle.record_loans.specs.Pieces.{no_pieces}
use Rattle.host_shared.specs.Locations.{no_locations, pieces_here}
use Rattle.host_shared.proofs.Ends.{front_of}
use Rattle.host_shared.proofs.tables.end_sharing.Goals as goal

pub loop-locations-preserved : goal.loop-locations-preserved
loop-locations-preserved g c =
    front_of no_locations (λ (s : Locations). pieces_here s ≡ no_pieces) c.pop.new.self.items c.in-Some.locations refl (rw c.in-Some.ensures.items at c.loop-locations.invariant)
