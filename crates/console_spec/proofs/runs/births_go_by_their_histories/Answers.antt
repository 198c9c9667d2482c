use Rattle.std.proofs.Common.{refl}
use Rattle.console_spec.proofs.BirthLemmas.{goes}
use Rattle.console_spec.proofs.runs.births_go_by_their_histories.Goals as goal

pub returns-clause-born : goal.returns-clause-born
returns-clause-born g c = goes

pub returns-clause-process : goal.returns-clause-process
returns-clause-process g c = λ i block out. refl
