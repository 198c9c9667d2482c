use Rattle.std.proofs.Common.{length, take, ◌-◌, ◌≡◌, false, ◌≤◌}
use Rattle.octet_ports.specs.Ports.{Takes}
use Rattle.octet_ports.proofs.octets.write_octets.Given as goal

abbrev pub invariant-loop-done : goal.invariant-loop-done
invariant-loop-done g l = record {
  within : l.done ≤ length l.octets;
  ready : (g.O.PortOut.sink l.output).failed ≡ false;
  taken : Takes (take l.done l.octets) (g.O.PortOut.sink l.initial.output) (g.O.PortOut.sink l.output);
}

abbrev pub decreases-loop-done : goal.decreases-loop-done
decreases-loop-done g l = length l.octets - l.done
