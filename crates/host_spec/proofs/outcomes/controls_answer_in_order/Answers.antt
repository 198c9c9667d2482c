use Rattle.host_spec.proofs.OutcomeLemmas.{control_command, control_granted, control_missing, control_range}
use Rattle.host_spec.proofs.outcomes.controls_answer_in_order.Goals as goal

pub returns-clause-range : goal.returns-clause-range
returns-clause-range g c = λ before i c taken status le. control_range before i c status taken le

pub returns-clause-missing : goal.returns-clause-missing
returns-clause-missing g c = λ before i c taken status lt none. control_missing before i c status taken lt none

pub returns-clause-command : goal.returns-clause-command
returns-clause-command g c = λ before i c status x lt there. control_command before i c status x lt there

pub returns-clause-granted : goal.returns-clause-granted
returns-clause-granted g c = λ before i c status x lt there. control_granted before i c status x lt there
