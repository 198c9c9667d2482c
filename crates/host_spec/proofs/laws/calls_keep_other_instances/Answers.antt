use Rattle.host_spec.proofs.CallLemmas.{others_stay, host_stays}
use Rattle.host_spec.proofs.laws.calls_keep_other_instances.Goals as goal

pub returns-clause-living : goal.returns-clause-living
returns-clause-living g c = others_stay

pub returns-clause-host : goal.returns-clause-host
returns-clause-host g c = host_stays
