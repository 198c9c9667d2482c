use Rattle.test_runs.proofs.SoundLemmas.{rows}
use Rattle.test_runs.proofs.sounds.sound_rows.Goals as goal

pub returns : goal.returns
returns c = rows
