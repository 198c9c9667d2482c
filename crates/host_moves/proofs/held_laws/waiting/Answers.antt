use Rattle.host_moves.proofs.Owns.{told_later}
use Rattle.host_moves.proofs.held_laws.waiting.Goals as goal

pub returns : goal.returns
returns g c k instances sharing groups groups' ok count activity blocks room = told_later k instances sharing groups groups' ok count activity blocks room
