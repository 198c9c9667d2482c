use Rattle.std.proofs.Common.{refl}
use Rattle.ialg.proofs.hosted.filters_are_lawful.Goals as goal

pub returns : goal.returns
returns g c kind p w = refl
