use Rattle.test_blocker.proofs.RowLemmas.{rows}
use Rattle.test_blocker.proofs.blocker_rows.Goals as goal

pub returns : goal.returns
returns c = rows
