use Rattle.host_table.specs.Table.{EachIsHoused}
use Rattle.host_moves.proofs.Owns.{but_all, but_own}
use Rattle.host_moves.proofs.held_laws.apart.Goals as goal

pub returns-clause-all : goal.returns-clause-all
returns-clause-all g c i instances sharing groups ok = but_all i instances sharing groups ok

pub returns-clause-own : goal.returns-clause-own
returns-clause-own g c i own instances sharing groups ok = but_own EachIsHoused i own instances sharing groups ok
