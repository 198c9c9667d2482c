use Rattle.host_spec.proofs.LifeLemmas.{lives_on, grows_by}
use Rattle.host_spec.proofs.laws.lives_go_by_their_histories.Goals as goal

pub returns-clause-living : goal.returns-clause-living
returns-clause-living g c = lives_on

pub returns-clause-grows : goal.returns-clause-grows
returns-clause-grows g c = grows_by
