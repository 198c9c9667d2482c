use Rattle.std.proofs.Common.{refl}
use Rattle.alg_host.proofs.lists.give.Goals as goal

pub returns : goal.returns
returns g c = λ before keeps. let did = rw c.as_slice.ensures.value at (c.process.ensures.machine before keeps) in (did.0, (did.0, did.1, refl), did.2)
