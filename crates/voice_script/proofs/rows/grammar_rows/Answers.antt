use Rattle.voice_script.proofs.RowLemmas as lemmas
use Rattle.voice_script.proofs.rows.grammar_rows.Goals as goal

pub returns-clause-creations : goal.returns-clause-creations
returns-clause-creations c = lemmas.creations

pub returns-clause-ranges : goal.returns-clause-ranges
returns-clause-ranges c = lemmas.ranges

pub returns-clause-numbers : goal.returns-clause-numbers
returns-clause-numbers c = lemmas.numbers

pub returns-clause-lines : goal.returns-clause-lines
returns-clause-lines c = lemmas.lines

pub returns-clause-names : goal.returns-clause-names
returns-clause-names c = lemmas.names

pub returns-clause-replies : goal.returns-clause-replies
returns-clause-replies c = lemmas.replies

pub returns-clause-controls : goal.returns-clause-controls
returns-clause-controls c = lemmas.controls

pub returns-clause-chains : goal.returns-clause-chains
returns-clause-chains c = lemmas.chains

pub returns-clause-one_numbers : goal.returns-clause-one_numbers
returns-clause-one_numbers c = lemmas.one_numbers

pub returns-clause-one_spaces : goal.returns-clause-one_spaces
returns-clause-one_spaces c = lemmas.one_spaces
