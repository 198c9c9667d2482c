use Rattle.console_spec.proofs.LineLemmas.{are_calls}
use Rattle.console_spec.proofs.runs.lines_are_calls.Goals as goal

pub returns : goal.returns
returns g c = λ kinds named widths honest run lines answer a. are_calls kinds widths named honest (c.refused_calls_change_nothing.ensures kinds) lines run answer a
