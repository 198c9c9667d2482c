use Rattle.std.proofs.Common.{sym}
use Rattle.std.proofs.lemmas.Option.{none-some}
use Rattle.host_table.proofs.life.free_member.Goals as goal

pub unreachable-requires : goal.unreachable-requires
unreachable-requires g c = none-some 0 (sym (rw c.in-Running.is at (c.requires.idle 0)))

pub returns-clause-freed : goal.returns-clause-freed
returns-clause-freed g c = rw c.in-Idling.is c.free_idle.ensures
