use Rattle.kind_parts.specs.declared.either.Or.TheVariants.{First, Second}
use Rattle.kind_parts.proofs.either.both_are_lawful.Goals as goal

pub returns : goal.returns
returns g c first second = elim [ First a ↦ first a | Second b ↦ second b ]
