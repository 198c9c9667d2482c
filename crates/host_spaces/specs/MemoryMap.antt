-- The memory map: of each space the blocks that stand there, in place order.
use Rattle.std.specs.Prelude.{◌≡◌, ℕ, ◌+◌, ◌-◌, ◌^◌, min}
use Rattle.mem_rec.specs.declared.Space.{Space}
use Rattle.mem_rec.specs.declared.Space.TheVariants.{Daram, Saram, External}
use Rattle.host_spaces.specs.Spaces.{SpaceState}
use Rattle.host_map.specs.declared.parts.Sizes.{Sizes}
use Rattle.host_spaces.specs.declared.spaces.Spaces.{Spaces}
use Rattle.host_map.specs.MemoryMap.{MemoryMap, each_space}

-- ---- the three spaces

abbrev pub space_in : Spaces → Space → SpaceState
space_in spaces Daram = spaces.daram
space_in spaces Saram = spaces.saram
space_in spaces External = spaces.external

abbrev pub map_of : Spaces → MemoryMap
map_of spaces = each_space (λ space. (space_in spaces space).blocks)

abbrev pub sizes_of : Spaces → Sizes
sizes_of spaces = record { daram = spaces.daram.region.size; saram = spaces.saram.region.size; external = spaces.external.region.size }

-- the words that were moved, up to the greatest number
abbrev pub copied_in : Spaces → ℕ
copied_in spaces = min (spaces.daram.slid + spaces.saram.slid + spaces.external.slid) (2 ^ 64 - 1)

-- the same spaces, in which as many words were moved; only their blocks may differ
pub record IsSameSpace (old new : SpaceState) : Type 0 where
  pub region : new.region ≡ old.region
  pub slid : new.slid ≡ old.slid

abbrev pub AreSameSpaces : Spaces → Spaces → Type 0
AreSameSpaces old new = (space : Space) → IsSameSpace (space_in old space) (space_in new space)
