use Rattle.std.proofs.Common.{rules, ◌∙◌, subst}
use Rattle.std.proofs.lemmas.List.{get_or_default}
use Rattle.octet_ports.specs.Passing.{HasRoom}
use Rattle.octet_ports.proofs.journal.Journal.make_room_at.Goals as goal

pub returns-clause-room : goal.returns-clause-room
returns-clause-room g c = λ _ d.
    subst HasRoom (c.index.ensures ∙ get_or_default c.args.self.now.outputs.items c.args.number c.index.result.now d c.requires.there) (c.is_full.ensures.room (search rules))
