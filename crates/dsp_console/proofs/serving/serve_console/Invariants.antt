use Rattle.std.proofs.Common.{map}
use Rattle.dsp_console.specs.Fresh.{fresh}
use Rattle.dsp_console.proofs.serving.serve_console.Given as goal

abbrev pub ghost-serve : goal.ghost-serve
ghost-serve g a = fresh a.machine.now (map g.I.PortIn.source a.inputs.now.items)
