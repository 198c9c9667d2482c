use Rattle.test_runs.proofs.HostRowLemmas.{runs}
use Rattle.test_runs.proofs.host_rows.run_rows.Goals as goal

pub returns : goal.returns
returns c = runs
