use Rattle.std.proofs.Common.{refl}
use Rattle.ialg.proofs.object.object_record.Goals as goal

pub returns : goal.returns
returns c = refl
