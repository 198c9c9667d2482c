use Rattle.std.proofs.Common.{◌≡◌, length, map, pos, take}
use Rattle.dsp_console.proofs.samples.read_octets.Given as goal

abbrev pub invariant-loop-k : goal.invariant-loop-k
invariant-loop-k l = record {
  size : length l.samples ≡ length l.initial.samples;
  first : take l.k l.samples ≡ map pos (take l.k l.octets);
}
