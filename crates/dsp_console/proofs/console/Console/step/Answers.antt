use Rattle.std.proofs.Common.{refl}
use Rattle.channel_spec.specs.Calls.Call.{OfHost}
use Rattle.host_spec.specs.Calls.Call.{Step}
use Rattle.voice_script.specs.Replies.{Flag}
use Rattle.voice_script.specs.Served.{Tell}
use Rattle.dsp_console.proofs.Served.{called}
use Rattle.dsp_console.proofs.console.Console.step.Goals as goal

pub returns-clause-asks : goal.returns-clause-asks
returns-clause-asks g c =
    called g.M.Ialg.law (λ a. OfHost (Step c.args.space a)) (λ a. Tell (Flag a)) c.step.result _ _ _ c.step.ensures.machine refl
