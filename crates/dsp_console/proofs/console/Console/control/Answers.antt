use Rattle.std.proofs.Common.{ap}
use Rattle.ialg.specs.Views.{control_of}
use Rattle.host_moves.specs.Refinement.{told}
use Rattle.channel_spec.specs.Calls.Call.{OfHost}
use Rattle.host_spec.specs.Calls.Call.{Control}
use Rattle.console_spec.specs.Console.{status_reply}
use Rattle.console_spec.specs.Told.{told_by}
use Rattle.voice_script.specs.Served.{Tell}
use Rattle.dsp_console.proofs.Served.{called}
use Rattle.dsp_console.proofs.console.Console.control.Goals as goal

pub returns-clause-asks : goal.returns-clause-asks
returns-clause-asks g c =
    called g.M.Ialg.law (λ a. OfHost (Control c.args.i (control_of c.args.control.now) a)) (λ a. Tell (told_by status_reply a)) (told c.control.result) _ _ _ c.control.ensures.machine (ap Tell c.tell_status.ensures)
