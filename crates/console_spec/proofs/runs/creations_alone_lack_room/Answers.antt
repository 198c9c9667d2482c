use Rattle.console_spec.proofs.RoomLemmas.{exactly, only}
use Rattle.console_spec.proofs.runs.creations_alone_lack_room.Goals as goal

pub returns-clause-only : goal.returns-clause-only
returns-clause-only g c = λ kinds before after call space does refused.
    only before after space kinds (λ b a sub did no. c.only_creations_lack_room.ensures kinds b a sub space did no) call does refused

pub returns-clause-exactly : goal.returns-clause-exactly
returns-clause-exactly g c = exactly
