use Rattle.std.proofs.Common.{refl}
use Rattle.alg_host.proofs.lists.make.Goals as goal

pub returns-in-Create-clause-served : goal.returns-in-Create-clause-served
returns-in-Create-clause-served g c = λ before keeps. let did = c.create.ensures.machine before keeps in (did.0, (did.0, did.1, refl), did.2)

pub returns-in-Control-clause-served : goal.returns-in-Control-clause-served
returns-in-Control-clause-served g c = λ before keeps. let did = c.control.ensures.machine before keeps in (did.0, (did.0, did.1, refl), did.2)

pub returns-in-Delete-clause-served : goal.returns-in-Delete-clause-served
returns-in-Delete-clause-served g c = λ before keeps. let did = c.delete.ensures.machine before keeps in (did.0, (did.0, did.1, refl), did.2)

pub returns-in-Release-clause-served : goal.returns-in-Release-clause-served
returns-in-Release-clause-served g c = λ before keeps. let did = c.release.ensures.machine before keeps in (did.0, (did.0, did.1, refl), did.2)

pub returns-in-Step-clause-served : goal.returns-in-Step-clause-served
returns-in-Step-clause-served g c = λ before keeps. let did = c.step.ensures.machine before keeps in (did.0, (did.0, did.1, refl), did.2)

pub returns-in-Compact-clause-served : goal.returns-in-Compact-clause-served
returns-in-Compact-clause-served g c = λ before keeps. let did = c.compact.ensures.machine before keeps in (did.0, (did.0, did.1, refl), did.2)
