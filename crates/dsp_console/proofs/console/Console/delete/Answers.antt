use Rattle.std.proofs.Common.{ap}
use Rattle.channel_spec.specs.Calls.Call.{Remove}
use Rattle.console_spec.specs.Told.{told_by}
use Rattle.voice_script.specs.Replies.{Done}
use Rattle.voice_script.specs.Served.{Tell}
use Rattle.dsp_console.proofs.Served.{called}
use Rattle.dsp_console.proofs.console.Console.delete.Goals as goal

pub returns-clause-asks : goal.returns-clause-asks
returns-clause-asks g c =
    called g.M.Ialg.law (λ a. Remove c.args.i a) (λ a. Tell (told_by (λ _. Done) a)) c.delete.result _ _ _ c.delete.ensures.machine (ap Tell c.tell_done.ensures)
