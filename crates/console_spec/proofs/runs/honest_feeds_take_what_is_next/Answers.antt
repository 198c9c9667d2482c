use Rattle.console_spec.proofs.LineLemmas.{has_enough, leaves_others, takes_next}
use Rattle.console_spec.proofs.runs.honest_feeds_take_what_is_next.Goals as goal

pub returns-clause-enough : goal.returns-clause-enough
returns-clause-enough g c = has_enough

pub returns-clause-block : goal.returns-clause-block
returns-clause-block g c = takes_next

pub returns-clause-others : goal.returns-clause-others
returns-clause-others g c = leaves_others
