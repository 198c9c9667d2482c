use Rattle.mem_rec.proofs.Valid.{within_limits}
use Rattle.lifecycle.proofs.Needs.{sizes_of_need}
use Rattle.lifecycle.proofs.Places.{there_is_room}
use Rattle.lifecycle.proofs.laws.room.Goals as goal

pub returns : goal.returns
returns c = record {
  words = λ rs own shared g table need has. sizes_of_need rs own shared g (within_limits rs table).few need has;
  places = there_is_room;
}
