use Rattle.host_spec.proofs.OutcomeLemmas.{process_none, process_some}
use Rattle.host_spec.proofs.outcomes.samples_touch.Goals as goal

pub returns-clause-some : goal.returns-clause-some
returns-clause-some g c = process_some

pub returns-clause-none : goal.returns-clause-none
returns-clause-none g c = process_none
