use Rattle.std.proofs.Common.{refl}
use Rattle.octet_ports.proofs.journal.Journal.push_output.Goals as goal

pub returns-clause-last : goal.returns-clause-last
returns-clause-last g c = λ _. (c.new.result, c.in_ok-push.ensures.items, c.new.ensures.writer, c.new.ensures.nothing)

pub returns-clause-stays : goal.returns-clause-stays
returns-clause-stays g c = (refl, refl, refl, refl)
