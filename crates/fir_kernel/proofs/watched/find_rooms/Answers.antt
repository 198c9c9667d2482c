use Rattle.std.proofs.Common.{◌≢◌, ◌+◌, ◌<◌, ◌*◌, ◌%◌, ℤ, List, length, arith, below_more, get_or-set_other, get_or-set_same, length-set}
use Rattle.fir_kernel.specs.Bounded.{NoneLouder}
use Rattle.fir_kernel.specs.Watched.{IsRoom}
use Rattle.fir_kernel.proofs.Groups.{group_room}
use Rattle.fir_kernel.proofs.watched.find_rooms.Goals as goal

pub loop-group-preserved : goal.loop-group-preserved
loop-group-preserved c =
    let cs = c.args.coefficients.now in
    let g = c.loop-group.group in
    let tap = length cs % 8 + 8 * g in
    let here : (line : List ℤ) → NoneLouder line c.args.loudest → IsRoom cs line tap c.room_of.result =
    λ line quiet. group_room cs line tap c.room_of.result c.args.loudest quiet c.room_of.ensures in
    let size = c.loop-group.invariant.size in
    let within : g < length c.loop-group.rooms = omega arith in
    record {
      size = rw length-set c.loop-group.invariant.size;
      rooms = λ line quiet.
          below_more _ _ (λ k h. let ne : k ≢ g = omega arith in rw get_or-set_other (c.loop-group.invariant.rooms line quiet k h)) (rw get_or-set_same (here line quiet));
    }
