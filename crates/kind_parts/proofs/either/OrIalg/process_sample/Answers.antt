use Rattle.std.proofs.Common.{w16}
use Rattle.std.proofs.Math.Facts.{to_z-of_z}
use Rattle.kind_parts.proofs.either.OrIalg.process_sample.Goals as goal

pub returns-in-First : goal.returns-in-First
returns-in-First g c = record { law = rw c.in-First.is (rw (to_z-of_z {w = w16} c.ranges.x) at c.process_sample.ensures.law) }

pub returns-in-Second : goal.returns-in-Second
returns-in-Second g c = record { law = rw c.in-Second.is (rw (to_z-of_z {w = w16} c.ranges.x) at c.process_sample-in-Second.ensures.law) }
