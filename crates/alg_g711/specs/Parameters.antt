-- What each of the two parameters names: private clauses alone need this.
use Rattle.std.specs.Prelude.{zero, suc, ℤ, pos, Option, Some, None}
use Rattle.alg_g711.specs.declared.companding.Law.{Law}
use Rattle.alg_g711.specs.declared.companding.Law.TheVariants.{A, Mu}
use Rattle.alg_g711.specs.declared.coder.Direction.{Direction}
use Rattle.alg_g711.specs.declared.coder.Direction.TheVariants.{Encode, Decode}

abbrev pub law_named : ℤ → Option Law
law_named (pos zero) = Some A
law_named (pos (suc zero)) = Some Mu
law_named _ = None

abbrev pub direction_named : ℤ → Option Direction
direction_named (pos zero) = Some Encode
direction_named (pos (suc zero)) = Some Decode
direction_named _ = None
