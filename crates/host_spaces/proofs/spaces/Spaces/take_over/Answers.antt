-- One record after the other.
use Rattle.std.proofs.Common.{◌≡◌, refl, arith}
use Rattle.host_spaces.specs.MemoryMap.{map_of}
use Rattle.host_map.specs.MemoryMap.{renamed}
use Rattle.host_map.specs.Creation.{taken_over, sharer_at}
use Rattle.host_spaces.proofs.Maps.{same_then}
use Rattle.host_spaces.proofs.Renaming.{left_blocks, other_blocks, same_itself, taken_all, taken_blocks, taken_first, taken_more}
use Rattle.host_spaces.proofs.spaces.Spaces.take_over.Goals as goal
use Rattle.host_spaces.proofs.spaces.Spaces.take_over.Goals.{After-loop-k}

pub loop-k-init : goal.loop-k-init
loop-k-init c = record { map = taken_first c.args.sharers.now c.args.i (map_of c.args.self.now) (map_of c.args.self.now); stays = same_itself c.args.self.now }

pub loop-k-preserved : goal.loop-k-preserved
loop-k-preserved c =
    record {
      map = taken_more (sharer_at c.args.sharers.now) c.args.i c.loop-k.k _ _ (map_of c.args.self.now) (map_of c.loop-k.self) (map_of c.take_record.new.self) refl refl
          c.loop-k.invariant.map c.take_record.ensures.map;
      stays = same_then c.args.self.now c.loop-k.self c.take_record.new.self c.loop-k.invariant.stays c.take_record.ensures.stays;
    }

map : (c : After-loop-k) → map_of c.loop-k.self ≡ renamed (taken_over (sharer_at c.args.sharers.now) c.args.i) (map_of c.args.self.now)
map c = taken_all c.args.sharers.now c.args.i (map_of c.args.self.now) (map_of c.loop-k.self) c.loop-k.k (omega arith) c.loop-k.invariant.map

pub returns-clause-map : goal.returns-clause-map
returns-clause-map c = map c

pub returns-clause-taken : goal.returns-clause-taken
returns-clause-taken c = λ k sharer space there lt none. taken_blocks (sharer_at c.args.sharers.now) c.args.i (map_of c.args.self.now) (map_of c.loop-k.self) (map c) k sharer space there lt none

pub returns-clause-left : goal.returns-clause-left
returns-clause-left c = λ k sharer space there lt. left_blocks (sharer_at c.args.sharers.now) c.args.i (map_of c.args.self.now) (map_of c.loop-k.self) (map c) k sharer space there lt

pub returns-clause-others : goal.returns-clause-others
returns-clause-others c = λ o space apart. other_blocks (sharer_at c.args.sharers.now) c.args.i (map_of c.args.self.now) (map_of c.loop-k.self) (map c) o space apart
