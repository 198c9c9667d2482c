use Rattle.std.proofs.Common.{◌<◌, length, ap, arith}
use Rattle.host_shared.specs.declared.locations.Location.TheVariants.{Here}
use Rattle.host_shared.specs.Locations.{piece_here}
use Rattle.host_shared.specs.Joining.{HasPiece}
use Rattle.host_shared.proofs.Owners.{replaced_here, replaced_there, replaced_beside}
use Rattle.host_shared.proofs.Joinings.{joined_alone}
use Rattle.host_shared.proofs.joining.join_record.Goals as goal

pub put_location-requires-clause-none : goal.put_location-requires-clause-none
put_location-requires-clause-none c = ap piece_here c.requires.none

pub end_none-requires : goal.end_none-requires
end_none-requires c =
    let can : HasPiece c.args.sharing.now.items c.args.k c.in-Some.other c.args.piece = rw c.in-Some.is at c.requires.sharer in
    can.none

pub join_sharer-requires-clause-here : goal.join_sharer-requires-clause-here
join_sharer-requires-clause-here c =
    let can : HasPiece c.args.sharing.now.items c.args.k c.in-Some.other c.args.piece = rw c.in-Some.is at c.requires.sharer in
    can.here

pub returns-in-None-clause-joined : goal.returns-in-None-clause-joined
returns-in-None-clause-joined c =
    let inside : c.args.i < length c.args.sharing.now.items = omega (arith, c.requires.number, c.requires.count) in
    rw c.in-None.is
    (joined_alone c.args.sharing.now.items c.put_location.new.sharing.items c.args.i c.args.k c.args.piece
    (replaced_here c.args.sharing.now.items c.put_location.new.sharing.items c.args.i c.args.k (Here c.args.piece) c.put_location.ensures inside (omega (arith, c.requires.record)))
    (replaced_there c.args.sharing.now.items c.put_location.new.sharing.items c.args.i c.args.k (Here c.args.piece) c.put_location.ensures))

pub returns-in-None-clause-beside : goal.returns-in-None-clause-beside
returns-in-None-clause-beside c j l apart =
    let inside : c.args.i < length c.args.sharing.now.items = omega (arith, c.requires.number, c.requires.count) in
    replaced_beside c.args.sharing.now.items c.put_location.new.sharing.items c.args.i c.args.k (Here c.args.piece) c.put_location.ensures inside j l apart

pub returns-in-Some-clause-joined : goal.returns-in-Some-clause-joined
returns-in-Some-clause-joined c = rw c.in-Some.is c.join_sharer.ensures.joined
