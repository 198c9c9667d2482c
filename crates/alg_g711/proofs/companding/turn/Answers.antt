use Rattle.std.proofs.Common.{lit<}
use Rattle.std.proofs.lemmas.Nat.{xor_lt}
use Rattle.alg_g711.proofs.companding.turn.Goals as goal

pub returns-in-A-clause-fits : goal.returns-in-A-clause-fits
returns-in-A-clause-fits c = xor_lt 7 c.args.bits 0x55 c.requires (lit< tt)
