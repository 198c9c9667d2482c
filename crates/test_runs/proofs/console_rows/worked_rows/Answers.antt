use Rattle.test_runs.proofs.ConsoleRowLemmas as lemmas
use Rattle.test_runs.proofs.console_rows.worked_rows.Goals as goal

pub returns-clause-rows : goal.returns-clause-rows
returns-clause-rows c = lemmas.worked_rows

pub returns-clause-octets : goal.returns-clause-octets
returns-clause-octets c = lemmas.octet_rows

pub returns-clause-refusals : goal.returns-clause-refusals
returns-clause-refusals c = lemmas.refusal_rows

pub returns-clause-order : goal.returns-clause-order
returns-clause-order c = lemmas.output_order
