use Rattle.std.proofs.Common.{refl}
use Rattle.alg_fir.proofs.decimator.decim_is_lawful.Goals as goal

pub returns : goal.returns
returns c kind p w = refl
