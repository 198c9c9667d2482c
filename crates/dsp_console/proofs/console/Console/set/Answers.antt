use Rattle.std.proofs.Common.{◌∙◌, ap}
use Rattle.ialg.specs.History.{Set}
use Rattle.voice_script.specs.Script as script
use Rattle.dsp_console.specs.Consoles.{port_widths_of}
use Rattle.dsp_console.proofs.Served.{obeyed}
use Rattle.dsp_console.proofs.console.Console.set.Goals as goal

pub returns-clause-asks : goal.returns-clause-asks
returns-clause-asks g c =
    obeyed g.M.Ialg.law (port_widths_of c.args.self.now) _ _ _ _ _
    (ap (λ words. script.Control c.args.i (Set words)) (c.copied.ensures ∙ c.as_slice.ensures.value)) c.control.ensures.asks
