use Rattle.std.proofs.Common.{refl}
use Rattle.alg_g711.proofs.laws.g711_is_lawful.Goals as goal

pub returns : goal.returns
returns c kind p w = refl
