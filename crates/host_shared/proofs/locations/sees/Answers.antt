use Rattle.std.proofs.Common.{◌≡◌, sym, ◌∙◌, ap}
use Rattle.host_shared.specs.declared.locations.Locations.{Locations}
use Rattle.host_shared.specs.declared.locations.Location.TheVariants.{At}
use Rattle.host_shared.specs.Locations.{location_at, locations_at}
use Rattle.host_shared.proofs.Bare.{read_locations}
use Rattle.host_shared.proofs.locations.sees.Goals as goal

pub has_piece-requires-clause-number : goal.has_piece-requires-clause-number
has_piece-requires-clause-number c =
    let inside = (c.requires.owners c.args.k).inside in
    let there : location_at (locations_at c.args.sharing.now.items c.args.i) c.args.k ≡ At c.in-At.owner =
    ap (λ (s : Locations). location_at s c.args.k) (read_locations c.args.sharing.now.items c.args.i c.index.result.now c.requires.number c.index.ensures) ∙ sym c.location.ensures ∙ c.in-At.is in
    rw there at inside
