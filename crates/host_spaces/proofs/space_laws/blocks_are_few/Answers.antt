use Rattle.host_spaces.proofs.Counting.{few, room}
use Rattle.host_spaces.proofs.space_laws.blocks_are_few.Goals as goal

pub returns-clause-few : goal.returns-clause-few
returns-clause-few c = few

pub returns-clause-room : goal.returns-clause-room
returns-clause-room c = room
