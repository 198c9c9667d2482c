use Rattle.std.proofs.Common.{w16}
use Rattle.std.proofs.Math.Facts.{to_z-of_z}
use Rattle.voice_set.proofs.voice.VoiceIalg.process_sample.Goals as goal

pub returns-in-G711 : goal.returns-in-G711
returns-in-G711 c = record { law = rw c.in-G711.is (rw (to_z-of_z {w = w16} c.ranges.x) at c.process_sample.ensures.law) }
