use Rattle.console_spec.proofs.HostRunLemmas.{asks, runs}
use Rattle.console_spec.proofs.runs.calls_run_on_the_host.Goals as goal

pub returns-clause-call : goal.returns-clause-call
returns-clause-call g c = asks

pub returns-clause-run : goal.returns-clause-run
returns-clause-run g c = λ kinds before after calls leads. runs kinds calls before after leads
