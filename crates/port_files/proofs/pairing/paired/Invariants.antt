use Rattle.std.proofs.Common.{◌≡◌, ◌++◌}
use Rattle.std.specs.List.{flat_map}
use Rattle.std.specs.Slice.Iter.{chunks_exact_rest, chunks_exact_size}
use Rattle.port_files.specs.Pairs.{both}
use Rattle.port_files.proofs.pairing.paired.Given as goal

-- the pairs, and then what is left, are the words
abbrev pub invariant-loop-pair : goal.invariant-loop-pair
invariant-loop-pair l = (flat_map both l.ports.items ++ chunks_exact_rest l.pair-iterator ≡ l.fn.words) × (chunks_exact_size l.pair-iterator ≡ 2)
