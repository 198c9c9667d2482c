use Rattle.std.proofs.Common.{◌≡◌, ◌<◌, Some, None, length, sym, ◌∙◌, ap, arith}
use Rattle.host_shared.specs.declared.locations.Location.TheVariants.{Here}
use Rattle.host_shared.specs.Locations.{piece_here}
use Rattle.host_shared.specs.Sharing.{next_sharer}
use Rattle.host_shared.proofs.Owners.{replaced_here, replaced_there, replaced_beside}
use Rattle.host_shared.proofs.Handing.{held_apart, next_is, with_inside, next_points, handed_next, handed_none}
use Rattle.host_shared.proofs.sharers.hand_piece.Goals as goal

pub put_location-requires-clause-number : goal.put_location-requires-clause-number
put_location-requires-clause-number c =
    let next : next_sharer c.args.sharing.now.items c.args.i c.args.k ≡ Some c.in-Some.next = sym c.requires.next ∙ c.in-Some.is in
    let inside = with_inside c.args.sharing.now.items c.in-Some.next c.args.k c.args.i (next_is c.args.sharing.now.items c.args.i c.args.k c.in-Some.next next) in
    omega (arith, inside, c.requires.count, c.point_all.ensures.count)

pub put_location-requires-clause-none : goal.put_location-requires-clause-none
put_location-requires-clause-none c =
    let next : next_sharer c.args.sharing.now.items c.args.i c.args.k ≡ Some c.in-Some.next = sym c.requires.next ∙ c.in-Some.is in
    let old = c.args.sharing.now.items in
    let left = c.replace_location-location.new.sharing.items in
    let there = replaced_there old left c.args.i c.args.k (Here None) c.replace_location-location.ensures.new in
    let here = replaced_here old left c.args.i c.args.k (Here None) c.replace_location-location.ensures.new (omega (arith, c.requires.number, c.requires.count)) (omega (arith, c.requires.record)) in
    ap piece_here (next_points old left c.point_all.new.sharing.items c.point_all.new.sharing.items c.args.i c.args.k c.in-Some.next next (held_apart c.args.sharing.now.items c.args.i c.args.k c.requires.held) there here c.point_all.ensures.pointed)

pub returns-in-Some-clause-handed : goal.returns-in-Some-clause-handed
returns-in-Some-clause-handed c =
    let next : next_sharer c.args.sharing.now.items c.args.i c.args.k ≡ Some c.in-Some.next = sym c.requires.next ∙ c.in-Some.is in
    let old = c.args.sharing.now.items in
    let left = c.replace_location-location.new.sharing.items in
    let others = c.point_all.new.sharing.items in
    let new = c.put_location.new.sharing.items in
    let there = replaced_there old left c.args.i c.args.k (Here None) c.replace_location-location.ensures.new in
    let here = replaced_here old left c.args.i c.args.k (Here None) c.replace_location-location.ensures.new (omega (arith, c.requires.number, c.requires.count)) (omega (arith, c.requires.record)) in
    let least = with_inside old c.in-Some.next c.args.k c.args.i (next_is old c.args.i c.args.k c.in-Some.next next) in
    let inside : c.in-Some.next < length others = omega (arith, least, c.requires.count, c.point_all.ensures.count) in
    handed_next old left others new c.args.i c.args.k c.in-Some.next next (held_apart c.args.sharing.now.items c.args.i c.args.k c.requires.held) there here c.point_all.ensures.pointed
    (replaced_there others new c.in-Some.next c.args.k c.replace_location-location.result c.put_location.ensures)
    (replaced_here others new c.in-Some.next c.args.k c.replace_location-location.result c.put_location.ensures inside (omega (arith, c.requires.record)) ∙ c.replace_location-location.ensures.old)

pub returns-in-Some-clause-beside : goal.returns-in-Some-clause-beside
returns-in-Some-clause-beside c j l apart =
    let next : next_sharer c.args.sharing.now.items c.args.i c.args.k ≡ Some c.in-Some.next = sym c.requires.next ∙ c.in-Some.is in
    let old = c.args.sharing.now.items in
    let others = c.point_all.new.sharing.items in
    let least = with_inside old c.in-Some.next c.args.k c.args.i (next_is old c.args.i c.args.k c.in-Some.next next) in
    let inside : c.in-Some.next < length others = omega (arith, least, c.requires.count, c.point_all.ensures.count) in
    replaced_beside others c.put_location.new.sharing.items c.in-Some.next c.args.k c.replace_location-location.result c.put_location.ensures inside j l apart
    ∙ c.point_all.ensures.beside j l apart
    ∙ replaced_beside old c.replace_location-location.new.sharing.items c.args.i c.args.k (Here None) c.replace_location-location.ensures.new (omega (arith, c.requires.number, c.requires.count)) j l apart

pub returns-in-None-clause-handed : goal.returns-in-None-clause-handed
returns-in-None-clause-handed c =
    let old = c.args.sharing.now.items in
    let left = c.replace_location-location.new.sharing.items in
    handed_none old left c.args.i c.args.k (sym c.requires.next ∙ c.in-None.is)
    (replaced_there old left c.args.i c.args.k (Here None) c.replace_location-location.ensures.new)
    (replaced_here old left c.args.i c.args.k (Here None) c.replace_location-location.ensures.new (omega (arith, c.requires.number, c.requires.count)) (omega (arith, c.requires.record)))

pub returns-in-None-clause-beside : goal.returns-in-None-clause-beside
returns-in-None-clause-beside c j l apart =
    replaced_beside c.args.sharing.now.items c.replace_location-location.new.sharing.items c.args.i c.args.k (Here None) c.replace_location-location.ensures.new (omega (arith, c.requires.number, c.requires.count)) j l apart
