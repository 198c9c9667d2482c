use Rattle.alg_fir.proofs.RowLemmas as lemmas
use Rattle.alg_fir.proofs.rows.fir_rows.Goals as goal

pub returns-clause-filters : goal.returns-clause-filters
returns-clause-filters c = lemmas.filters

pub returns-clause-decimators : goal.returns-clause-decimators
returns-clause-decimators c = lemmas.decimators

pub returns-clause-tables : goal.returns-clause-tables
returns-clause-tables c = lemmas.tables

pub returns-clause-parameters : goal.returns-clause-parameters
returns-clause-parameters c = lemmas.parameters

pub returns-clause-controls : goal.returns-clause-controls
returns-clause-controls c = lemmas.controls
