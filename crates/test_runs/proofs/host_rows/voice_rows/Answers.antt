use Rattle.test_runs.proofs.HostRowLemmas.{voices}
use Rattle.test_runs.proofs.host_rows.voice_rows.Goals as goal

pub returns : goal.returns
returns c = voices
