-- The records below the number have their owners.
use Rattle.std.proofs.Common.{◌≡◌}
use Rattle.host_spaces.specs.MemoryMap.{AreSameSpaces, map_of}
use Rattle.host_map.specs.MemoryMap.{renamed}
use Rattle.host_map.specs.Creation.{taken_over, sharer_at}
use Rattle.host_spaces.proofs.Renaming.{upto}
use Rattle.host_spaces.proofs.spaces.Spaces.take_over.Given as goal

abbrev pub invariant-loop-k : goal.invariant-loop-k
invariant-loop-k l = record {
  map : map_of l.self ≡ renamed (taken_over (upto l.k (sharer_at l.sharers)) l.i) (map_of l.initial.self);
  stays : AreSameSpaces l.initial.self l.self;
}
