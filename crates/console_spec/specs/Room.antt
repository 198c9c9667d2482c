-- Where a creation finds no room.
use Rattle.std.specs.Prelude.{ℕ, ℤ, ◌≡◌, ◌<◌, ◌*◌, false, List, ◌∷◌, ◌++◌, Some, None, Ok}
use Rattle.mem_rec.specs.declared.MemRec.{MemRec}
use Rattle.mem_rec.specs.declared.Space.{Space}
use Rattle.ialg.specs.Meaning.{Meaning}
use Rattle.relocate.specs.Places.{is_free}
use Rattle.mem_rec.specs.declared.TheConstants.{INSTANCES, GROUPS}
use Rattle.host_map.specs.Blocks.{ranges}
use Rattle.host_map.specs.declared.parts.Sizes.{Sizes}
use Rattle.host_map.specs.declared.parts.Wanted.{Wanted}
use Rattle.host_map.specs.MemoryMap.{MemoryMap, blocks_in, words_in}
use Rattle.host_map.specs.Creation.{all_placed, wanted_by}
use Rattle.host_spec.specs.State.{State, sharers_of}
use Rattle.host_spec.specs.Steps.{newborn}
use Rattle.host_spec.specs.Calls.Call.{Create}
use Rattle.channel_spec.specs.Calls.{Call}
use Rattle.channel_spec.specs.Calls.Call.{OfHost}

-- the block is free at no multiple of its alignment
abbrev pub HasNoPlace : Sizes → MemoryMap → Wanted → Type 0
HasNoPlace sizes map w = (k : ℕ) → is_free (words_in sizes w.space) (ranges (blocks_in map w.space)) (record { place = k * w.align; size = w.size }) ≡ false

-- of these blocks the first ones are placed, one after the other, and then the next has no place, in this space
abbrev pub FallsShort : Sizes → MemoryMap → List Wanted → Space → Type 0
FallsShort sizes map ws space =
    (first rest : List Wanted) × (w : Wanted) × (placed : MemoryMap) × (ws ≡ first ++ w ∷ rest) × (all_placed sizes map first ≡ Ok placed)
    × HasNoPlace sizes placed w × (w.space ≡ space)

-- nothing but room is wanting: the numbers are in range, the instance's is free, the kind takes the parameters, and of the blocks that
-- the instance needs, beyond those that it shares, one has no place
abbrev pub LacksRoom : {M : Type 0} → Meaning M → State M → (i : ℕ) (kind : M) (g : ℕ) (p : List ℤ) → Space → Type 0
LacksRoom kinds before i kind g p space =
    (i < INSTANCES) × (g < GROUPS) × (before.living i ≡ None) × (table : List MemRec) × (kinds.table kind p ≡ Some table)
    × FallsShort before.sizes before.map (wanted_by (sharers_of kinds before.living (newborn kind g p table)) before.map i g table) space

abbrev pub IsCreation : {M : Type 0} → Call M → Type 0
IsCreation (OfHost (Create i kind g p answer)) = Unit {0}
IsCreation _ = ⊥
