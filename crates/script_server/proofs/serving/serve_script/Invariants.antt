use Rattle.std.proofs.Common.{◌≡◌, ◌+◌, ◌≤◌, false, length, map}
use Rattle.octet_ports.specs.Lines.{behind}
use Rattle.script_server.specs.Runs.{AreReady, AllWait, honest_at, run_of}
use Rattle.script_server.proofs.SoFar.{ServedSoFar, Consumes}
use Rattle.script_server.specs.declared.limits.TheConstants.{SCRIPT_OCTETS}
use Rattle.script_server.proofs.serving.serve_script.Given as goal

abbrev pub invariant-lines : goal.invariant-lines
invariant-lines g l = record {
  script : (g.S.PortIn.source l.script).failed ≡ false;
  widths : g.T.LineMachine.widths l.machine ≡ g.T.LineMachine.widths l.initial.machine;
  one : length l.inputs.items ≡ g.T.LineMachine.channels l.machine;
  pairs : length l.outputs.items ≡ g.T.LineMachine.channels l.machine;
  ready : AreReady (map g.I.PortIn.source l.inputs.items) (map g.O.PortOut.sink l.outputs.items) (g.P.PortOut.sink l.replies);
  few : l.refused + l.reader.left ≤ SCRIPT_OCTETS;
  came : Consumes l.reader.left (g.S.PortIn.source l.initial.script) (behind l.reader.octets (g.S.PortIn.source l.script));
  waits : AllWait (map g.O.PortOut.sink l.initial.outputs.items) (map g.O.PortOut.sink l.outputs.items) (g.P.PortOut.sink l.initial.replies) (g.P.PortOut.sink l.replies);
  served : ServedSoFar (g.T.LineMachine.machine (g.T.LineMachine.widths l.initial.machine)) (g.T.LineMachine.refines l.machine)
      (honest_at (map g.I.PortIn.source l.initial.inputs.items)) (run_of g.state (map g.I.PortIn.source l.initial.inputs.items)) l.refused l.reader.left
      (g.S.PortIn.source l.initial.script) (behind l.reader.octets (g.S.PortIn.source l.script)) (map g.I.PortIn.source l.inputs.items)
      (map g.O.PortOut.sink l.initial.outputs.items) (map g.O.PortOut.sink l.outputs.items) (g.P.PortOut.sink l.initial.replies) (g.P.PortOut.sink l.replies);
}

abbrev pub decreases-lines : goal.decreases-lines
decreases-lines g l = l.reader.left
