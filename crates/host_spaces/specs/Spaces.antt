-- A space and its blocks.
use Rattle.std.specs.Prelude.{ℕ, ◌<◌, ◌≤◌, ◌^◌, List, length, take}
use Rattle.space_raw.specs.Span.{Extent}
use Rattle.space_heap.specs.Maps.{AreBlocks, HeapState, Holds}
use Rattle.relocate.specs.Places.{IsSpaceSize}
use Rattle.relocate.specs.Spots.{AreSpots}
use Rattle.relocate.specs.Packing.{IsPacked}
use Rattle.host_map.specs.declared.placed.Placed.{Placed}
use Rattle.host_map.specs.Blocks.{ranges}
use Rattle.host_map.specs.Moves.{spots_of}

-- the space, how many words were moved in it, and its blocks
pub record SpaceState : Type 0 where
  pub region : Extent
  pub slid : ℕ
  pub blocks : List Placed

-- the blocks lie within a space of so many words, none meets another, and they are in place order, each at a multiple of its alignment
pub record AreInOrder (words : ℕ) (blocks : List Placed) : Type 0 where
  pub size : IsSpaceSize words
  pub apart : AreBlocks words (ranges blocks)
  pub order : AreSpots (spots_of blocks)

-- they are the blocks that the heap holds
pub record AreKept (heap : HeapState) (blocks : List Placed) : Type 0 where
  pub size : IsSpaceSize heap.region.size
  pub held : Holds heap (ranges blocks)
  pub order : AreSpots (spots_of blocks)
  pub counted : heap.slid < 2 ^ 64

-- so many of the first blocks are at their packed places
pub record HasFront (count : ℕ) (blocks : List Placed) : Type 0 where
  pub within : count ≤ length blocks
  pub packed : IsPacked (take count (spots_of blocks))
