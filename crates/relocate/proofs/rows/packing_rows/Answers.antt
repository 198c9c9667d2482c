use Rattle.relocate.proofs.RowLemmas as lemmas
use Rattle.relocate.proofs.rows.packing_rows.Goals as goal

pub returns-clause-moves : goal.returns-clause-moves
returns-clause-moves c = lemmas.moves

pub returns-clause-compactions : goal.returns-clause-compactions
returns-clause-compactions c = lemmas.compactions
