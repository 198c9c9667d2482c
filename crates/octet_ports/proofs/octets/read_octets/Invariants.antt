use Rattle.std.proofs.Common.{length, take, ◌-◌, ◌≡◌, false, ◌≤◌}
use Rattle.octet_ports.specs.Ports.{Gives}
use Rattle.octet_ports.proofs.octets.read_octets.Given as goal

abbrev pub invariant-loop-done : goal.invariant-loop-done
invariant-loop-done g l = record {
  within : l.done ≤ length l.buffer;
  ready : (g.I.PortIn.source l.input).failed ≡ false;
  given : Gives (take l.done l.buffer) (g.I.PortIn.source l.initial.input) (g.I.PortIn.source l.input);
}

abbrev pub decreases-loop-done : goal.decreases-loop-done
decreases-loop-done g l = length l.initial.buffer - l.done
