use Rattle.std.proofs.Common.{false, ap, sym}
use Rattle.ialg.specs.Views.{control_of}
use Rattle.ialg.specs.Meaning.{accepts_set}
use Rattle.alg_g711.proofs.kind.G711Ialg.accepts.Goals as goal

pub returns-in-Set : goal.returns-in-Set
returns-in-Set c w lawful = ap (λ x. accepts_set (λ words. false) (control_of x)) (sym c.in-Set.is)
