-- The memory map: of each space the blocks that stand there, in place order.
use Rattle.std.specs.Prelude.{ℕ, ◌==◌, Bool, false, not, List, [], ◌∷◌, map, filter, find, Option, if◌then◌else◌}
use Rattle.mem_rec.specs.declared.Space.{Space}
use Rattle.mem_rec.specs.declared.Space.TheVariants.{Daram, Saram, External}
use Rattle.mem_rec.specs.Records.{same_space}
use Rattle.relocate.specs.Places.{IsSpaceSize, least_place}
use Rattle.host_map.specs.declared.placed.Owner.{Owner}
use Rattle.host_map.specs.declared.placed.Owner.TheVariants.{Record, Scratch}
use Rattle.host_map.specs.declared.placed.Placed.{Placed}
use Rattle.host_map.specs.Blocks.{ranges, with_block}
use Rattle.host_map.specs.Moves.{moved_behind, packed_behind}
use Rattle.host_map.specs.declared.parts.Sizes.{Sizes}

pub record MemoryMap : Type 0 where
  pub daram : List Placed
  pub saram : List Placed
  pub external : List Placed

abbrev pub empty_map : MemoryMap
empty_map = record { daram = []; saram = []; external = [] }

abbrev pub blocks_in : MemoryMap → Space → List Placed
blocks_in map Daram = map.daram
blocks_in map Saram = map.saram
blocks_in map External = map.external

-- the memory map with these blocks of each space
abbrev pub each_space : (Space → List Placed) → MemoryMap
each_space blocks = record { daram = blocks Daram; saram = blocks Saram; external = blocks External }

-- the memory map with these blocks of one space
abbrev pub with_blocks : MemoryMap → Space → List Placed → MemoryMap
with_blocks map space blocks = each_space (λ other. if same_space other space then blocks else blocks_in map other)

-- in the order in which they are served
abbrev pub all_spaces : List Space
all_spaces = Daram ∷ Saram ∷ External ∷ []

abbrev pub words_in : Sizes → Space → ℕ
words_in sizes Daram = sizes.daram
words_in sizes Saram = sizes.saram
words_in sizes External = sizes.external

abbrev pub AreSizes : Sizes → Type 0
AreSizes sizes = IsSpaceSize sizes.daram × IsSpaceSize sizes.saram × IsSpaceSize sizes.external

-- the place of a new block of so many words, if there is one
abbrev pub place_in : Sizes → MemoryMap → Space → ℕ → ℕ → Option ℕ
place_in sizes map space size align = least_place (words_in sizes space) (ranges (blocks_in map space)) size align

abbrev pub put_block : MemoryMap → Space → Placed → MemoryMap
put_block map space b = with_blocks map space (with_block b (blocks_in map space))

abbrev pub is_instance's : ℕ → Owner → Bool
is_instance's i (Record j k) = i == j
is_instance's i (Scratch g) = false

abbrev pub is_group's : ℕ → Owner → Bool
is_group's g (Record i k) = false
is_group's g (Scratch h) = g == h

-- the memory map with another owner of each block
abbrev pub renamed : (Owner → Owner) → MemoryMap → MemoryMap
renamed new old = each_space (λ space. map (λ (b : Placed). record b { owner = new b.owner }) (blocks_in old space))

-- without the blocks of the owners that pass the test
abbrev pub without_owners : (Owner → Bool) → MemoryMap → MemoryMap
without_owners gone map = each_space (λ space. filter (λ b. not (gone b.owner)) (blocks_in map space))

-- the block of a group
abbrev pub group_block : MemoryMap → ℕ → Space → Option Placed
group_block map g space = find (λ b. is_group's g b.owner) (blocks_in map space)

-- the memory map after the next move of a space, if there is one
abbrev pub moved_in : MemoryMap → Space → MemoryMap
moved_in map space = with_blocks map space (moved_behind 0 (blocks_in map space))

-- the memory map once next moves of a space were made until there was none
abbrev pub packed_in : MemoryMap → Space → MemoryMap
packed_in map space = with_blocks map space (packed_behind 0 (blocks_in map space))
