use Rattle.alg_g711.proofs.Computed.{monotone}
use Rattle.alg_g711.proofs.laws.decoding_is_monotone.Goals as goal

pub returns : goal.returns
returns c = monotone
