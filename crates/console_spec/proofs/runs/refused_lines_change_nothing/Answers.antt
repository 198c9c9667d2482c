use Rattle.console_spec.proofs.LineLemmas.{one_did}
use Rattle.console_spec.proofs.runs.refused_lines_change_nothing.Goals as goal

pub returns : goal.returns
returns g c = λ kinds named widths honest run line answer a le. (one_did kinds widths named honest (c.refused_calls_change_nothing.ensures kinds) run line answer a).refused le
