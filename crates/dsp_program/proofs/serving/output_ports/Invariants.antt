use Rattle.std.proofs.Common.{◌≡◌, length, map, All}
use Rattle.octet_ports.specs.Handles.{handle_sink}
use Rattle.script_server.specs.Runs.{IsReadyOut}
use Rattle.dsp_program.proofs.serving.output_ports.Given as goal

abbrev pub invariant-loop-number : goal.invariant-loop-number
invariant-loop-number g l = record {
  count : length l.ports.items ≡ l.number;
  ready : All IsReadyOut (map (λ port. handle_sink port.failed) l.ports.items);
}
