use Rattle.std.proofs.Common.{arith}
use Rattle.std.proofs.lemmas.Int.{to_z-of_z}
use Rattle.kind_parts.proofs.words.keep_sum.Goals as goal

pub returns : goal.returns
returns c = grind (arith, to_z-of_z)
