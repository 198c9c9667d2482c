use Rattle.alg_g711.proofs.Computed.{codes_come_back}
use Rattle.alg_g711.proofs.laws.codes_come_back.Goals as goal

pub returns : goal.returns
returns c = codes_come_back
