-- The records below the number have left, and their pieces are taken out.
use Rattle.std.proofs.Common.{◌≡◌}
use Rattle.host_spaces.proofs.Leaving.{HaveLeft, left_from}
use Rattle.host_spaces.proofs.spaces.Spaces.take_out_records.Given as goal

abbrev pub invariant-loop-k : goal.invariant-loop-k
invariant-loop-k l = record {
  left : HaveLeft l.i l.k l.initial.self l.self;
  pieces : l.pieces ≡ left_from l.k l.initial.pieces;
}
