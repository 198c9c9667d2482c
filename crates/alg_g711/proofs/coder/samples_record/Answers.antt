use Rattle.std.proofs.Common.{refl}
use Rattle.alg_g711.proofs.coder.samples_record.Goals as goal

pub returns : goal.returns
returns c = refl
