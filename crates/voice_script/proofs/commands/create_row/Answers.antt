use Rattle.std.proofs.Common.{arith}
use Rattle.std.proofs.lemmas.Bool.{and_parts}
use Rattle.voice_script.proofs.ReadingLemmas.{unfit}
use Rattle.voice_script.proofs.commands.create_row.Goals as goal

pub returns : goal.returns
returns c = grind (arith, and_parts, unfit)

pub returns-in_err-instance : goal.returns-in_err-instance
returns-in_err-instance c = grind (arith, and_parts, unfit)

pub returns-in_err-kind : goal.returns-in_err-kind
returns-in_err-kind c = grind (arith, and_parts, unfit)

pub returns-in_err-group : goal.returns-in_err-group
returns-in_err-group c = grind (arith, and_parts, unfit)

pub returns-in_err-parameters : goal.returns-in_err-parameters
returns-in_err-parameters c = grind (arith, and_parts, unfit)

pub returns-in_err-i : goal.returns-in_err-i
returns-in_err-i c = grind (arith, and_parts, unfit)

pub returns-in_err-g : goal.returns-in_err-g
returns-in_err-g c = grind (arith, and_parts, unfit)
