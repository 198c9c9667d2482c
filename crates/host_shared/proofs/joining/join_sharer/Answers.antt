use Rattle.std.proofs.Common.{◌<◌, None, length, ap, arith}
use Rattle.host_shared.specs.declared.locations.Location.TheVariants.{At}
use Rattle.host_shared.specs.Locations.{piece_here}
use Rattle.host_shared.proofs.Owners.{replaced_here, replaced_there, replaced_beside}
use Rattle.host_shared.proofs.Joinings.{joined_lower, joined_upper}
use Rattle.host_shared.proofs.joining.join_sharer.Goals as goal

pub put_location-requires-clause-none : goal.put_location-requires-clause-none
put_location-requires-clause-none c = ap piece_here c.requires.none

pub returns-then-sharer-i-clause-joined : goal.returns-then-sharer-i-clause-joined
returns-then-sharer-i-clause-joined c =
    let inside : c.args.i < length c.args.sharing.now.items = omega (arith, c.requires.number, c.requires.count) in
    joined_lower c.args.sharing.now.items c.put_location.new.sharing.items c.args.i c.args.k None c.args.sharer c.if-sharer-i.true
    (replaced_here c.args.sharing.now.items c.put_location.new.sharing.items c.args.i c.args.k (At c.args.sharer) c.put_location.ensures inside (omega (arith, c.requires.record)))
    (replaced_there c.args.sharing.now.items c.put_location.new.sharing.items c.args.i c.args.k (At c.args.sharer) c.put_location.ensures)

pub returns-then-sharer-i-clause-beside : goal.returns-then-sharer-i-clause-beside
returns-then-sharer-i-clause-beside c j l apart =
    let inside : c.args.i < length c.args.sharing.now.items = omega (arith, c.requires.number, c.requires.count) in
    replaced_beside c.args.sharing.now.items c.put_location.new.sharing.items c.args.i c.args.k (At c.args.sharer) c.put_location.ensures inside j l apart

pub returns-else-sharer-i-clause-joined : goal.returns-else-sharer-i-clause-joined
returns-else-sharer-i-clause-joined c =
    joined_upper c.args.sharing.now.items c.take_over.new.sharing.items c.args.i c.args.k None c.args.sharer (omega (arith, c.if-sharer-i.false)) c.take_over.ensures.taken
