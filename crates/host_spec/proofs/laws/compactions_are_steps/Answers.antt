use Rattle.host_spec.proofs.CompactLemmas.{steps_compact}
use Rattle.host_spec.proofs.laws.compactions_are_steps.Goals as goal

pub returns : goal.returns
returns g c = steps_compact
