use Rattle.std.proofs.Common.{◌≡◌, refl, None, sym, ◌∙◌, ap, arith}
use Rattle.host_shared.specs.declared.locations.Location.TheVariants.{Here}
use Rattle.host_shared.specs.Locations.{location_at, locations_at}
use Rattle.host_shared.specs.declared.locations.Locations.{Locations}
use Rattle.host_shared.proofs.Bare.{read_locations}
use Rattle.host_shared.proofs.Handing.{nobody_next, handed_none}
use Rattle.host_shared.proofs.sharers.hand_record.Goals as goal

pub returns-then-is_nothing-clause-left : goal.returns-then-is_nothing-clause-left
returns-then-is_nothing-clause-left c =
    let locations = read_locations c.args.sharing.now.items c.args.i c.index.result.now (omega (arith, c.requires.number, c.requires.count)) c.index.ensures in
    let none : location_at (locations_at c.args.sharing.now.items c.args.i) c.args.k ≡ Here None =
    ap (λ (s : Locations). location_at s c.args.k) locations ∙ sym c.location.ensures ∙ c.is_nothing.ensures c.if-is_nothing.true in
    rw (nobody_next c.args.sharing.now.items c.args.i c.args.k c.requires.held none, none) refl

pub returns-then-is_nothing-clause-handed : goal.returns-then-is_nothing-clause-handed
returns-then-is_nothing-clause-handed c =
    let locations = read_locations c.args.sharing.now.items c.args.i c.index.result.now (omega (arith, c.requires.number, c.requires.count)) c.index.ensures in
    let none : location_at (locations_at c.args.sharing.now.items c.args.i) c.args.k ≡ Here None =
    ap (λ (s : Locations). location_at s c.args.k) locations ∙ sym c.location.ensures ∙ c.is_nothing.ensures c.if-is_nothing.true in
    handed_none c.args.sharing.now.items c.args.sharing.now.items c.args.i c.args.k (nobody_next c.args.sharing.now.items c.args.i c.args.k c.requires.held none) (λ j apart. refl) none
