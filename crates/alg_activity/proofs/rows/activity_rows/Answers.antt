use Rattle.alg_activity.proofs.RowLemmas.{rows}
use Rattle.alg_activity.proofs.rows.activity_rows.Goals as goal

pub returns : goal.returns
returns c = rows
