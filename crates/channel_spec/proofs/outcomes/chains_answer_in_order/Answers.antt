use Rattle.channel_spec.proofs.OutcomeLemmas.{chain_range, chain_taken, chain_missing, chain_busy, chain_granted}
use Rattle.channel_spec.proofs.outcomes.chains_answer_in_order.Goals as goal

pub returns-clause-range : goal.returns-clause-range
returns-clause-range g c = chain_range

pub returns-clause-taken : goal.returns-clause-taken
returns-clause-taken g c = chain_taken

pub returns-clause-missing : goal.returns-clause-missing
returns-clause-missing g c = chain_missing

pub returns-clause-busy : goal.returns-clause-busy
returns-clause-busy g c = chain_busy

pub returns-clause-granted : goal.returns-clause-granted
returns-clause-granted g c = chain_granted
