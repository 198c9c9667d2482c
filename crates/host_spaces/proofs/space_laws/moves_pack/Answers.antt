use Rattle.host_spaces.proofs.Packings.{packing}
use Rattle.host_spaces.proofs.space_laws.moves_pack.Goals as goal

pub returns : goal.returns
returns c = packing
