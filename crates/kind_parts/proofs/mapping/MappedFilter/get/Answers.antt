use Rattle.std.proofs.Common.{arith}
use Rattle.kind_parts.proofs.mapping.MappedFilter.get.Goals as goal

pub returns-else-kept-le-PARAMETER_WORDS-clause-answer : goal.returns-else-kept-le-PARAMETER_WORDS-clause-answer
returns-else-kept-le-PARAMETER_WORDS-clause-answer g c p h keeps =
    let few = keeps.few in
    let size = keeps.size in
    let more = c.if-kept-le-PARAMETER_WORDS.false in
    absurd (omega arith)
