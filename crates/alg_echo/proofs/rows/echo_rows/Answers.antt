use Rattle.alg_echo.proofs.RowLemmas.{rows}
use Rattle.alg_echo.proofs.rows.echo_rows.Goals as goal

pub returns : goal.returns
returns c = rows
