use Rattle.host_spec.proofs.LifeLemmas.{agree}
use Rattle.host_spec.proofs.laws.lives_agree.Goals as goal

pub returns : goal.returns
returns g c = agree
