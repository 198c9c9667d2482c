use Rattle.std.proofs.Common.{◌≡◌, length}
use Rattle.dsp_library.specs.Sums.{l_mac_sum}
use Rattle.dsp_library.proofs.blocks.l_mac_all.Given as goal

abbrev pub invariant-loop-k : goal.invariant-loop-k
invariant-loop-k l = record {
  sum : l.sum ≡ l_mac_sum l.v l.a l.b l.k;
  size : length l.a ≡ length l.b;
}
