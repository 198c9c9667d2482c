use Rattle.host_table.proofs.Held.{owners_of_held}
use Rattle.host_moves.proofs.Slides.{waiting_slid, seen_slid, here_slid}
use Rattle.host_moves.proofs.held_laws.slid.Goals as goal

pub returns-clause-waiting : goal.returns-clause-waiting
returns-clause-waiting g c i k p q instances sharing groups ok below there room =
    waiting_slid sharing (owners_of_held instances sharing ok.held) i k p q below there instances groups ok room

pub returns-clause-seen : goal.returns-clause-seen
returns-clause-seen g c i k p q sharing owners below there j = seen_slid sharing owners i k p q below there j

pub returns-clause-here : goal.returns-clause-here
returns-clause-here g c i k p q sharing owners below there j = here_slid sharing owners i k p q below there j
