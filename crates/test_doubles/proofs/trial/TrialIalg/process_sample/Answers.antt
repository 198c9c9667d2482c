use Rattle.std.proofs.Common.{w16}
use Rattle.std.proofs.Math.Facts.{to_z-of_z}
use Rattle.test_doubles.proofs.trial.TrialIalg.process_sample.Goals as goal

pub returns : goal.returns
returns c = record { law = rw (to_z-of_z {w = w16} c.ranges.x) at c.process_sample.ensures.law }
