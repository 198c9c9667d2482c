use Rattle.std.proofs.Common.{rules}
use Rattle.script_server.specs.Runs.{IsReadyOut}
use Rattle.dsp_program.proofs.Opening.{ready_behind}
use Rattle.dsp_program.proofs.serving.output_ports.Goals as goal

pub loop-number-preserved : goal.loop-number-preserved
loop-number-preserved g c = record {
  count = search rules;
  ready = ready_behind IsReadyOut _ c.loop-number.ports.items c.new.result _ (search rules) c.loop-number.invariant.ready c.new.ensures;
}
