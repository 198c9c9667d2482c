use Rattle.std.proofs.Common.{ap}
use Rattle.channel_spec.specs.Calls.Call.{OfHost}
use Rattle.host_spec.specs.Calls.Call.{Release}
use Rattle.console_spec.specs.Told.{told_by}
use Rattle.voice_script.specs.Replies.{Flag}
use Rattle.voice_script.specs.Served.{Tell}
use Rattle.dsp_console.proofs.Served.{called}
use Rattle.dsp_console.proofs.console.Console.release.Goals as goal

pub returns-clause-asks : goal.returns-clause-asks
returns-clause-asks g c =
    called g.M.Ialg.law (λ a. OfHost (Release c.args.group a)) (λ a. Tell (told_by Flag a)) c.release.result _ _ _ c.release.ensures.machine (ap Tell c.tell_flag.ensures)
