use Rattle.alg_g711.proofs.RowLemmas as lemmas
use Rattle.alg_g711.proofs.rows.companding_rows.Goals as goal

pub returns-clause-codes : goal.returns-clause-codes
returns-clause-codes c = lemmas.codes

pub returns-clause-samples : goal.returns-clause-samples
returns-clause-samples c = lemmas.samples

pub returns-clause-coders : goal.returns-clause-coders
returns-clause-coders c = lemmas.coders

pub returns-clause-parameters : goal.returns-clause-parameters
returns-clause-parameters c = lemmas.parameters

pub returns-clause-kinds : goal.returns-clause-kinds
returns-clause-kinds c = lemmas.kinds
