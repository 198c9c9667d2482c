use Rattle.alg_signal.proofs.RowLemmas.{rows}
use Rattle.alg_signal.proofs.rows.signal_rows.Goals as goal

pub returns : goal.returns
returns c = rows
