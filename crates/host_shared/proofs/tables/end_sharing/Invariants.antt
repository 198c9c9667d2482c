use Rattle.std.proofs.Common.{◌≡◌, ℕ, length}
use Rattle.record_loans.specs.Pieces.{no_pieces}
use Rattle.host_shared.specs.Locations.{pieces_here, locations_at}
use Rattle.host_shared.proofs.tables.end_sharing.Given as goal

abbrev pub invariant-loop-locations : goal.invariant-loop-locations
invariant-loop-locations g l = (i : ℕ) → pieces_here (locations_at l.sharing.items i) ≡ no_pieces

abbrev pub decreases-loop-locations : goal.decreases-loop-locations
decreases-loop-locations g l = length l.sharing.items
