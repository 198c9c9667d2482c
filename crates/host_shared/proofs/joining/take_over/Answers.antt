use Rattle.std.proofs.Common.{◌≡◌, ◌≢◌, ◌<◌, Some, None, length, sym, ◌∙◌, ap, arith}
use Rattle.host_shared.specs.declared.locations.Location.TheVariants.{Here, At}
use Rattle.host_shared.specs.Locations.{location_at, locations_at, piece_here}
use Rattle.host_shared.proofs.Owners.{replaced_here, replaced_there, replaced_beside}
use Rattle.host_shared.proofs.Lent.{piece_inside}
use Rattle.host_shared.proofs.Joinings.{nothing_yet, taken_over}
use Rattle.host_shared.proofs.joining.take_over.Goals as goal

pub replace_location-location-requires-clause-number : goal.replace_location-location-requires-clause-number
replace_location-location-requires-clause-number c = piece_inside c.args.sharing.now.items c.args.sharer c.args.k c.requires.here.0 c.requires.here.1

pub put_location-requires-clause-none : goal.put_location-requires-clause-none
put_location-requires-clause-none c =
    let old = c.args.sharing.now.items in
    let left = c.replace_location-location.new.sharing.items in
    let inside = piece_inside old c.args.sharer c.args.k c.requires.here.0 c.requires.here.1 in
    let apart : c.args.i ≢ c.args.sharer =
    λ same. (let both : Here None ≡ Here (Some c.requires.here.0) = sym c.requires.none ∙ ap (λ x. location_at (locations_at old x) c.args.k) same ∙ c.requires.here.1 in cc) in
    ap piece_here
    (nothing_yet old left c.point_all.new.sharing.items c.point_all.new.sharing.items c.args.i c.args.k c.args.sharer c.requires.here
    (replaced_here old left c.args.sharer c.args.k (At c.args.i) c.replace_location-location.ensures.new inside (omega (arith, c.requires.record)))
    (replaced_there old left c.args.sharer c.args.k (At c.args.i) c.replace_location-location.ensures.new)
    c.point_all.ensures.pointed apart c.requires.none)

pub returns-clause-taken : goal.returns-clause-taken
returns-clause-taken c =
    let old = c.args.sharing.now.items in
    let left = c.replace_location-location.new.sharing.items in
    let others = c.point_all.new.sharing.items in
    let new = c.put_location.new.sharing.items in
    let inside = piece_inside old c.args.sharer c.args.k c.requires.here.0 c.requires.here.1 in
    let own_inside : c.args.i < length others = omega (arith, c.requires.number, c.point_all.ensures.count) in
    taken_over old left others new c.args.i c.args.k c.args.sharer c.requires.here
    (replaced_here old left c.args.sharer c.args.k (At c.args.i) c.replace_location-location.ensures.new inside (omega (arith, c.requires.record)))
    (replaced_there old left c.args.sharer c.args.k (At c.args.i) c.replace_location-location.ensures.new)
    c.point_all.ensures.pointed
    (replaced_here others new c.args.i c.args.k c.replace_location-location.result c.put_location.ensures own_inside (omega (arith, c.requires.record)) ∙ c.replace_location-location.ensures.old)
    (replaced_there others new c.args.i c.args.k c.replace_location-location.result c.put_location.ensures)

pub returns-clause-beside : goal.returns-clause-beside
returns-clause-beside c j l apart =
    let old = c.args.sharing.now.items in
    let others = c.point_all.new.sharing.items in
    let inside = piece_inside old c.args.sharer c.args.k c.requires.here.0 c.requires.here.1 in
    let own_inside : c.args.i < length others = omega (arith, c.requires.number, c.point_all.ensures.count) in
    replaced_beside others c.put_location.new.sharing.items c.args.i c.args.k c.replace_location-location.result c.put_location.ensures own_inside j l apart
    ∙ c.point_all.ensures.beside j l apart
    ∙ replaced_beside old c.replace_location-location.new.sharing.items c.args.sharer c.args.k (At c.args.i) c.replace_location-location.ensures.new inside j l apart
