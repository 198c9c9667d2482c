use Rattle.host_moves.proofs.Seen.{words_seen}
use Rattle.host_moves.proofs.held_laws.words.Goals as goal

pub returns : goal.returns
returns g c w histories instances instances' sharing sharing' groups groups' ok stays keeps =
    words_seen g.M.Ialg.law w histories ok stays keeps
