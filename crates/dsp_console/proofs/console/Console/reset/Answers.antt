use Rattle.std.proofs.Common.{refl}
use Rattle.ialg.specs.History.{Reset}
use Rattle.voice_script.specs.Script as script
use Rattle.dsp_console.specs.Consoles.{port_widths_of}
use Rattle.dsp_console.proofs.Served.{obeyed}
use Rattle.dsp_console.proofs.console.Console.reset.Goals as goal

pub returns-clause-asks : goal.returns-clause-asks
returns-clause-asks g c =
    obeyed g.M.Ialg.law (port_widths_of c.args.self.now) (script.Control c.args.i Reset) (script.Control c.args.i Reset) _ _ _ refl c.control.ensures.asks
