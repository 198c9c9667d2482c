use Rattle.test_runs.proofs.HostRowLemmas.{sharings}
use Rattle.test_runs.proofs.host_rows.sharing_rows.Goals as goal

pub returns : goal.returns
returns c = sharings
