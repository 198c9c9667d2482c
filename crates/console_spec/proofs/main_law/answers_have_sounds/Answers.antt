use Rattle.console_spec.proofs.SoundLemmas.{has_sounds}
use Rattle.console_spec.proofs.main_law.answers_have_sounds.Goals as goal

pub returns : goal.returns
returns s c = λ kinds named widths sizes poison lines inputs honest answer a. has_sounds kinds poison named widths sizes lines inputs honest answer a
