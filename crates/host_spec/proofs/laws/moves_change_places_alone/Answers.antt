use Rattle.host_spec.specs.Steps.{step, compact}
use Rattle.host_spec.specs.Laws.{OnlyMoves}
use Rattle.host_spec.proofs.CallLemmas.{after_is}
use Rattle.host_spec.proofs.MoveLemmas.{step_moves, compact_moves}
use Rattle.host_spec.proofs.laws.moves_change_places_alone.Goals as goal

pub returns-clause-step : goal.returns-clause-step
returns-clause-step g c = λ kinds before after space answer does. after_is (OnlyMoves before) answer after (step before space) does (step_moves before space)

pub returns-clause-compact : goal.returns-clause-compact
returns-clause-compact g c = λ kinds before after space answer does. after_is (OnlyMoves before) answer after (compact before space) does (compact_moves before space)
