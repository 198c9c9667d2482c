use Rattle.std.proofs.Common.{refl}
use Rattle.channel_spec.specs.Calls.Call.{OfHost}
use Rattle.host_spec.specs.Calls.Call.{Compact}
use Rattle.voice_script.specs.Replies.{Count}
use Rattle.voice_script.specs.Served.{Tell}
use Rattle.dsp_console.proofs.Served.{called}
use Rattle.dsp_console.proofs.console.Console.compact.Goals as goal

pub returns-clause-asks : goal.returns-clause-asks
returns-clause-asks g c =
    called g.M.Ialg.law (λ a. OfHost (Compact c.args.space a)) (λ a. Tell (Count a)) c.compact.result _ _ _ c.compact.ensures.machine refl
