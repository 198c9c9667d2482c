use Rattle.std.proofs.Common.{arith}
use Rattle.std.proofs.lemmas.Bool.Decides.{nat_tests}
use Rattle.relocate.proofs.limits.is_space_size.Goals as goal

pub returns-then-words-le-SPACE_WORDS : goal.returns-then-words-le-SPACE_WORDS
returns-then-words-le-SPACE_WORDS c = grind (arith, nat_tests)

pub returns-else-words-le-SPACE_WORDS : goal.returns-else-words-le-SPACE_WORDS
returns-else-words-le-SPACE_WORDS c = grind (arith, nat_tests)
