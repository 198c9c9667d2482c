use Rattle.alg_tone.proofs.RowLemmas as lemmas
use Rattle.alg_tone.proofs.rows.tone_rows.Goals as goal

pub returns-clause-outputs : goal.returns-clause-outputs
returns-clause-outputs c = lemmas.outputs

pub returns-clause-parameters : goal.returns-clause-parameters
returns-clause-parameters c = lemmas.parameters

pub returns-clause-controls : goal.returns-clause-controls
returns-clause-controls c = lemmas.controls
