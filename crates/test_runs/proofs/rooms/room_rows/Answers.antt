use Rattle.test_runs.proofs.RoomLemmas.{rows}
use Rattle.test_runs.proofs.rooms.room_rows.Goals as goal

pub returns : goal.returns
returns c = rows
