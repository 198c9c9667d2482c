use Rattle.std.specs.Prelude.{[], Ok}
use Rattle.channel_spec.specs.Parts.{with_members}
use Rattle.channel_spec.proofs.OutcomeLemmas.{about_range, about_missing, about_granted}
use Rattle.channel_spec.proofs.outcomes.unchains_answer_in_order.Goals as goal

pub returns-clause-range : goal.returns-clause-range
returns-clause-range g c = λ before number le. (about_range before number (Ok tt, with_members before number []) le, about_range before number (Ok tt, before) le)

pub returns-clause-missing : goal.returns-clause-missing
returns-clause-missing g c = λ before number lt free.
    (about_missing before number (Ok tt, with_members before number []) lt free, about_missing before number (Ok tt, before) lt free)

pub returns-clause-granted : goal.returns-clause-granted
returns-clause-granted g c = λ before number lt chained.
    (about_granted before number (Ok tt, with_members before number []) lt chained, about_granted before number (Ok tt, before) lt chained)
