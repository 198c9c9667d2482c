use Rattle.host_spec.proofs.RunLemmas.{refused_call}
use Rattle.host_spec.proofs.laws.refused_calls_change_nothing.Goals as goal

pub returns : goal.returns
returns g c = refused_call
