use Rattle.channel_spec.proofs.AnswerLemmas.{computed}
use Rattle.channel_spec.proofs.laws.lawful_calls_are_computed.Goals as goal

pub returns : goal.returns
returns g c = λ kinds before after call lawful does. computed kinds before after lawful call does
