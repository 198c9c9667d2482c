use Rattle.std.proofs.Common.{◌≡◌, ◌≤◌, ℕ, [], length, map, take, All, slice_index_or}
use Rattle.octet_ports.specs.Ports.{Sink, HasPassedAll}
use Rattle.script_server.specs.Runs.{Writes, IsReadyOut, no_sink}
use Rattle.script_server.proofs.line.flush_outputs.Given as goal

abbrev pub invariant-loop-channel : goal.invariant-loop-channel
invariant-loop-channel g l = record {
  count : length l.outputs.items ≡ length l.initial.outputs.items;
  ready : All IsReadyOut (map g.O.PortOut.sink l.outputs.items);
  passed : All HasPassedAll (take l.channel (map g.O.PortOut.sink l.outputs.items));
  later : (k : ℕ) → l.channel ≤ k → slice_index_or (map g.O.PortOut.sink l.outputs.items) k no_sink ≡ slice_index_or (map g.O.PortOut.sink l.initial.outputs.items) k no_sink;
  holds : (replies : Sink) → Writes [] (map g.O.PortOut.sink l.initial.outputs.items) (map g.O.PortOut.sink l.outputs.items) replies replies;
}
