-- What a call changes in the spaces and in their map.
use Rattle.std.specs.Prelude.{ℕ, ◌<◌, ◌≡◌, ◌≢◌, List, [], Option, Some}
use Rattle.mem_rec.specs.declared.Space.{Space}
use Rattle.space_raw.specs.Span.{Span}
use Rattle.host_map.specs.declared.placed.Owner.{Owner}
use Rattle.host_map.specs.declared.placed.Owner.TheVariants.{Record, Scratch}
use Rattle.host_map.specs.declared.placed.Placed.{Placed}
use Rattle.host_map.specs.declared.parts.Wanted.{Wanted}
use Rattle.host_map.specs.Blocks.{owned, renamed_blocks}
use Rattle.host_map.specs.MemoryMap.{MemoryMap, blocks_in}
use Rattle.host_spaces.specs.Spaces.{SpaceState}
use Rattle.host_spaces.specs.declared.spaces.Spaces.{Spaces}
use Rattle.host_spaces.specs.MemoryMap.{space_in}
use Rattle.host_spaces.specs.Changes.{IsAdded, IsAllThatIsNew, IsAtLeastPlace, IsOwned, OthersStay}

-- the space where a block is wanted
abbrev pub space_for : Wanted → Spaces → SpaceState
space_for want spaces = space_in spaces want.space

-- the blocks of that space
abbrev pub blocks_for : Wanted → Spaces → List Placed
blocks_for want spaces = (space_in spaces want.space).blocks

-- the other spaces are the same
abbrev pub OtherSpacesStay : Space → Spaces → Spaces → Type 0
OtherSpacesStay space old new = (other : Space) → other ≢ space → space_in new other ≡ space_in old other

-- the owner has the same blocks in the space
abbrev pub OwnerStays : Owner → Space → MemoryMap → MemoryMap → Type 0
OwnerStays o space old new = owned o (blocks_in new space) ≡ owned o (blocks_in old space)

-- all but the group's own blocks are the same
abbrev pub AllButGroupStay : ℕ → MemoryMap → MemoryMap → Type 0
AllButGroupStay g old new = (o : Owner) (space : Space) → o ≢ Scratch g → OwnerStays o space old new

-- all but the blocks of the instance's records are the same
abbrev pub AllButInstanceStay : ℕ → MemoryMap → MemoryMap → Type 0
AllButInstanceStay i old new = (o : Owner) (space : Space) → ((k : ℕ) → o ≢ Record i k) → OwnerStays o space old new

-- all but the blocks of the group and of the instance's records are the same
abbrev pub AllButTheseStay : ℕ → ℕ → MemoryMap → MemoryMap → Type 0
AllButTheseStay g i old new = (o : Owner) (space : Space) → o ≢ Scratch g → ((k : ℕ) → o ≢ Record i k) → OwnerStays o space old new

-- an instance takes over the blocks of its records from each sharer with a greater number
abbrev pub AreTaken : (ℕ → Option ℕ) → ℕ → MemoryMap → MemoryMap → Type 0
AreTaken sharers i old new = (k sharer : ℕ) (space : Space) → sharers k ≡ Some sharer → i < sharer → owned (Record i k) (blocks_in old space) ≡ []
    → owned (Record i k) (blocks_in new space) ≡ renamed_blocks (λ _. Record i k) (owned (Record sharer k) (blocks_in old space))

-- each sharer with a greater number has none left
abbrev pub SharersHaveNone : (ℕ → Option ℕ) → ℕ → MemoryMap → Type 0
SharersHaveNone sharers i new = (k sharer : ℕ) (space : Space) → sharers k ≡ Some sharer → i < sharer → owned (Record sharer k) (blocks_in new space) ≡ []

-- all but the blocks that are taken over, and those of the instance itself, are the same
abbrev pub AllButTakenStay : (ℕ → Option ℕ) → ℕ → MemoryMap → MemoryMap → Type 0
AllButTakenStay sharers i old new = (o : Owner) (space : Space)
    → ((k sharer : ℕ) → sharers k ≡ Some sharer → i < sharer → (o ≢ Record i k) × (o ≢ Record sharer k))
    → OwnerStays o space old new

-- each sharer is handed the blocks of the instance's records
abbrev pub AreHanded : (ℕ → Option ℕ) → ℕ → MemoryMap → MemoryMap → Type 0
AreHanded sharers i old new = (k sharer : ℕ) (space : Space) → sharers k ≡ Some sharer → owned (Record sharer k) (blocks_in old space) ≡ []
    → owned (Record sharer k) (blocks_in new space) ≡ renamed_blocks (λ _. Record sharer k) (owned (Record i k) (blocks_in old space))

-- the instance has none left of what another one shares
abbrev pub OwnerHasNone : (ℕ → Option ℕ) → ℕ → MemoryMap → Type 0
OwnerHasNone sharers i new = (k sharer : ℕ) (space : Space) → sharers k ≡ Some sharer → sharer ≢ i → owned (Record i k) (blocks_in new space) ≡ []

-- all but the blocks that are handed on, and those of the sharers, are the same
abbrev pub AllButHandedStay : (ℕ → Option ℕ) → ℕ → MemoryMap → MemoryMap → Type 0
AllButHandedStay sharers i old new = (o : Owner) (space : Space)
    → ((k sharer : ℕ) → sharers k ≡ Some sharer → (o ≢ Record i k) × (o ≢ Record sharer k))
    → OwnerStays o space old new

-- what Changes says of a placement, of a block that is wanted: the piece stands at the least place of its space
abbrev pub IsLeastPlaceFor : Wanted → Option Span → Spaces → Type 0
IsLeastPlaceFor want piece spaces = IsAtLeastPlace piece (space_for want spaces) want.size want.align

-- it is one more of the blocks
abbrev pub IsAddedFor : Wanted → Option Span → Spaces → Spaces → Type 0
IsAddedFor want piece old new = IsAdded piece want.owner want.align (blocks_for want old) (blocks_for want new)

-- it is one more of the owner's blocks
abbrev pub IsOwnedFor : Wanted → Option Span → Spaces → Spaces → Type 0
IsOwnedFor want piece old new = IsOwned piece want.owner want.align (blocks_for want old) (blocks_for want new)

-- all others have the same blocks
abbrev pub OthersStayFor : Wanted → Spaces → Spaces → Type 0
OthersStayFor want old new = OthersStay want.owner (blocks_for want old) (blocks_for want new)

-- without the piece, the blocks are those from before
abbrev pub IsAllThatIsNewFor : Wanted → Option Span → Spaces → Spaces → Type 0
IsAllThatIsNewFor want piece old new = IsAllThatIsNew piece (blocks_for want old) (blocks_for want new)

-- each space has the region that it had
abbrev pub RegionsStay : Spaces → Spaces → Type 0
RegionsStay old new = (space : Space) → (space_in new space).region ≡ (space_in old space).region

-- the instance has no blocks
abbrev pub InstanceHasNone : ℕ → MemoryMap → Type 0
InstanceHasNone i map = (k : ℕ) (space : Space) → owned (Record i k) (blocks_in map space) ≡ []
