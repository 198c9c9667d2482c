use Rattle.test_runs.proofs.HostRowLemmas.{creations}
use Rattle.test_runs.proofs.host_rows.creation_rows.Goals as goal

pub returns : goal.returns
returns c = creations
