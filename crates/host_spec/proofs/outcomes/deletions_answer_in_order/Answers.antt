use Rattle.host_spec.proofs.OutcomeLemmas.{delete_granted, delete_missing, delete_range}
use Rattle.host_spec.proofs.outcomes.deletions_answer_in_order.Goals as goal

pub returns-clause-range : goal.returns-clause-range
returns-clause-range g c = λ kinds before. delete_range before kinds

pub returns-clause-missing : goal.returns-clause-missing
returns-clause-missing g c = λ kinds before. delete_missing before kinds

pub returns-clause-granted : goal.returns-clause-granted
returns-clause-granted g c = λ kinds before. delete_granted before kinds
