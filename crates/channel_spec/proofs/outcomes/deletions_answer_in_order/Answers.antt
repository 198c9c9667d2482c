use Rattle.channel_spec.proofs.OutcomeLemmas.{delete_range, delete_missing, delete_busy, delete_granted}
use Rattle.channel_spec.proofs.outcomes.deletions_answer_in_order.Goals as goal

pub returns-clause-range : goal.returns-clause-range
returns-clause-range g c = λ kinds before. delete_range before kinds

pub returns-clause-missing : goal.returns-clause-missing
returns-clause-missing g c = λ kinds before. delete_missing before kinds

pub returns-clause-busy : goal.returns-clause-busy
returns-clause-busy g c = λ kinds before. delete_busy before kinds

pub returns-clause-granted : goal.returns-clause-granted
returns-clause-granted g c = λ kinds before. delete_granted before kinds
