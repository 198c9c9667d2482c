use Rattle.std.proofs.Common.{ap, sym, ◌∙◌}
use Rattle.ialg.specs.Meaning.{outputs_of}
use Rattle.host_spec.specs.Runs.{statuses_of}
use Rattle.console_spec.proofs.BirthLemmas.{goes}
use Rattle.console_spec.proofs.runs.births_agree.Goals as goal

pub returns : goal.returns
returns g c = λ kinds one one_after other other_after calls others i j g' h kind p later since leads lawful born leads' lawful' born' same.
    let first = goes kinds one one_after calls i g' kind p later leads lawful born in
    let second = goes kinds other other_after others j h kind p since leads' lawful' born' in
    (first.gives.outputs ∙ ap (outputs_of kinds kind p) same ∙ sym second.gives.outputs, first.gives.statuses ∙ ap (statuses_of kinds kind p) same ∙ sym second.gives.statuses)
