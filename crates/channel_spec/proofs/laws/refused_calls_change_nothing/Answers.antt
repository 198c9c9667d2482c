use Rattle.channel_spec.proofs.RefusalLemmas.{left}
use Rattle.channel_spec.proofs.laws.refused_calls_change_nothing.Goals as goal

pub returns : goal.returns
returns g c = λ kinds before after call refusal does refused.
    left before after refusal kinds (λ b a sub did no. c.refused_calls_change_nothing.ensures kinds b a sub refusal did no) call does refused
