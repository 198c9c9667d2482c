-- One record after the other.
use Rattle.std.proofs.Common.{◌≡◌, refl, arith}
use Rattle.host_spaces.specs.MemoryMap.{map_of}
use Rattle.host_map.specs.MemoryMap.{renamed}
use Rattle.host_map.specs.Creation.{handed_on, sharer_at}
use Rattle.host_spaces.proofs.Maps.{same_then}
use Rattle.host_spaces.proofs.Renaming.{gone_blocks, handed_all, handed_first, handed_more, heir_blocks, kept_blocks_of, same_itself}
use Rattle.host_spaces.proofs.spaces.Spaces.hand_on.Goals as goal
use Rattle.host_spaces.proofs.spaces.Spaces.hand_on.Goals.{After-loop-k}

pub loop-k-init : goal.loop-k-init
loop-k-init c = record { map = handed_first c.args.sharers.now c.args.i (map_of c.args.self.now) (map_of c.args.self.now); stays = same_itself c.args.self.now }

pub loop-k-preserved : goal.loop-k-preserved
loop-k-preserved c =
    record {
      map = handed_more (sharer_at c.args.sharers.now) c.args.i c.loop-k.k _ _ (map_of c.args.self.now) (map_of c.loop-k.self) (map_of c.hand_record.new.self) refl refl
          c.loop-k.invariant.map c.hand_record.ensures.map;
      stays = same_then c.args.self.now c.loop-k.self c.hand_record.new.self c.loop-k.invariant.stays c.hand_record.ensures.stays;
    }

map : (c : After-loop-k) → map_of c.loop-k.self ≡ renamed (handed_on (sharer_at c.args.sharers.now) c.args.i) (map_of c.args.self.now)
map c = handed_all c.args.sharers.now c.args.i (map_of c.args.self.now) (map_of c.loop-k.self) c.loop-k.k (omega arith) c.loop-k.invariant.map

pub returns-clause-map : goal.returns-clause-map
returns-clause-map c = map c

pub returns-clause-handed : goal.returns-clause-handed
returns-clause-handed c = λ k sharer space there none. heir_blocks (sharer_at c.args.sharers.now) c.args.i (map_of c.args.self.now) (map_of c.loop-k.self) (map c) k sharer space there none

pub returns-clause-left : goal.returns-clause-left
returns-clause-left c = λ k sharer space there apart. gone_blocks (sharer_at c.args.sharers.now) c.args.i (map_of c.args.self.now) (map_of c.loop-k.self) (map c) k sharer space there apart

pub returns-clause-others : goal.returns-clause-others
returns-clause-others c = λ o space apart. kept_blocks_of (sharer_at c.args.sharers.now) c.args.i (map_of c.args.self.now) (map_of c.loop-k.self) (map c) o space apart
