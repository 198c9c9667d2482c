use Rattle.std.proofs.Common.{◌≡◌, true, ap, refl, sym, ◌∙◌}
use Rattle.std.proofs.lemmas.List.{get_or_read}
use Rattle.host_shared.specs.Locations.{location_at, locations_at, no_locations}
use Rattle.host_shared.specs.Sharing.{is_at}
use Rattle.host_shared.proofs.sharers.point.Goals as goal

pub returns-then-is_at : goal.returns-then-is_at
returns-then-is_at c =
    let read = get_or_read c.args.sharing.now.items c.args.j c.index.result.now c.requires.number c.index.ensures no_locations in
    let there : location_at (locations_at c.args.sharing.now.items c.args.j) c.args.k ≡ c.location.result.now = sym (c.location.ensures ∙ ap (λ s. location_at s c.args.k) read) in
    let is : is_at c.args.i c.location.result.now ≡ true = sym c.is_at.ensures ∙ c.if-is_at.true in
    c.put_location.ensures ∙ rw (there, is) refl
