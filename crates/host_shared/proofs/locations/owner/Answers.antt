use Rattle.std.proofs.Common.{ap, sym, ◌∙◌}
use Rattle.std.proofs.lemmas.List.{get_or_read}
use Rattle.host_shared.specs.Locations.{location_at, no_locations, owner_by}
use Rattle.host_shared.proofs.locations.owner.Goals as goal

pub returns-in-At : goal.returns-in-At
returns-in-At c =
    let there = get_or_read c.args.sharing.now.items c.args.i c.index.result.now c.requires.number c.index.ensures no_locations in
    ap (owner_by c.args.i) (sym c.in-At.is ∙ c.location.ensures ∙ ap (λ s. location_at s c.args.k) there)
