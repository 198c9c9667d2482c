use Rattle.host_spec.proofs.OutcomeLemmas.{release_granted, release_range, stat_granted, stat_range}
use Rattle.host_spec.proofs.outcomes.groups_answer_in_order.Goals as goal

pub returns-clause-release_range : goal.returns-clause-release_range
returns-clause-release_range g c = release_range

pub returns-clause-release : goal.returns-clause-release
returns-clause-release g c = release_granted

pub returns-clause-stat_range : goal.returns-clause-stat_range
returns-clause-stat_range g c = stat_range

pub returns-clause-stat : goal.returns-clause-stat
returns-clause-stat g c = stat_granted
