use Rattle.host_spec.proofs.AnswerLemmas.{computed, all_computed}
use Rattle.host_spec.proofs.laws.lawful_calls_are_computed.Goals as goal

pub returns-clause-call : goal.returns-clause-call
returns-clause-call g c = computed

pub returns-clause-run : goal.returns-clause-run
returns-clause-run g c = λ kinds before after calls lawful leads. all_computed kinds calls before after lawful leads
