use Rattle.std.proofs.Common.{rules, arith}
use Rattle.std.proofs.lemmas.Grind.{common_steps}
use Rattle.space_raw.proofs.store.write_pair.Goals as goal

pub run_mut-words-requires : goal.run_mut-words-requires
run_mut-words-requires c = search rules

pub returns-clause-words : goal.returns-clause-words
returns-clause-words c = grind (arith, common_steps)
