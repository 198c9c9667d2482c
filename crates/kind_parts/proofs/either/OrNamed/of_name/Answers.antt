use Rattle.std.proofs.Common.{rules}
use Rattle.kind_parts.proofs.either.OrNamed.of_name.Goals as goal

pub returns-in-Some : goal.returns-in-Some
returns-in-Some g c = search rules

pub returns-in-Some-of_name : goal.returns-in-Some-of_name
returns-in-Some-of_name g c = search rules

pub returns-in-None-of_name : goal.returns-in-None-of_name
returns-in-None-of_name g c = search rules
