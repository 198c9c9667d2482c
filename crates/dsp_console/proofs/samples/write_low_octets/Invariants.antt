use Rattle.std.proofs.Common.{◌≡◌, ◌%◌, length, map, take}
use Rattle.std.specs.Int.{w16, cast_unsigned}
use Rattle.dsp_console.proofs.samples.write_low_octets.Given as goal

abbrev pub invariant-loop-k : goal.invariant-loop-k
invariant-loop-k l = record {
  size : length l.octets ≡ length l.initial.octets;
  first : take l.k l.octets ≡ map (λ x. cast_unsigned w16 x % 256) (take l.k l.samples);
}
