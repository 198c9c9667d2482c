-- Which blocks a new instance needs, the memory map with them, and the memory map without a deleted one's.
use Rattle.std.specs.Prelude.{ℕ, max, Bool, not, ◌||◌, ◌&&◌, List, [], ◌∷◌, ◌++◌, filter, filter_map, Option, Some, None, is_some, unwrap_or, Result, Ok, Err, nat_eq, nat_le, nat_lt, ◌==◌, slice_index_or, if◌then◌else◌}
use Rattle.std.specs.List.{enumerate_from, list_any}
use Rattle.std.specs.Option.{option_eq, option_map_or}
use Rattle.std.specs.Result.{result_map_both}
use Rattle.mem_rec.specs.declared.MemRec.{MemRec}
use Rattle.mem_rec.specs.declared.Space.{Space}
use Rattle.mem_rec.specs.Records.{is_scratch}
use Rattle.mem_rec.specs.Layout.{scratch_need, scratch_align}
use Rattle.relocate.specs.Places.{placed_size}
use Rattle.host_map.specs.declared.placed.Owner.{Owner}
use Rattle.host_map.specs.declared.placed.Owner.TheVariants.{Record, Scratch}
use Rattle.host_map.specs.declared.placed.Placed.{Placed}
use Rattle.host_map.specs.declared.parts.Sizes.{Sizes}
use Rattle.host_map.specs.declared.parts.Wanted.{Wanted}
use Rattle.host_map.specs.MemoryMap.{MemoryMap, all_spaces, blocks_in, each_space, group_block, is_group's, is_instance's, place_in, put_block, renamed, without_owners}

-- a list of sharers by the numbers of records
abbrev pub sharer_at : List (Option ℕ) → ℕ → Option ℕ
sharer_at sharers k = slice_index_or sharers k None

-- record k's sharer alone
abbrev pub only : ℕ → Option ℕ → ℕ → Option ℕ
only k sharer l = if l == k then sharer else None

-- what record k of instance i needs: a scratch record nothing of its own, and nothing a record that a living instance shares, its sharer
abbrev pub record_wanted : (ℕ → Option ℕ) → ℕ → ℕ → MemRec → Option Wanted
record_wanted sharers i k r =
    if is_scratch r.attr || is_some (sharers k) then None else Some (record { space = r.space; owner = Record i k; size = placed_size r.size; align = r.align })

-- what a member with this table needs of its group in the space: nothing where the group's block is large enough and aligned. Where the group has
-- none, that is as if it had one of no words
abbrev pub scratch_wanted : MemoryMap → ℕ → List MemRec → Space → Option Wanted
scratch_wanted map g table space =
    let need = scratch_need table space in
    let align = scratch_align table space in
    let old = unwrap_or (group_block map g space) (record { owner = Scratch g; place = 0; size = 0; align = 0 }) in
    if need == 0 || nat_le need old.size && nat_le align old.align then None
    else Some (record { space = space; owner = Scratch g; size = max old.size need; align = max old.align align })

-- in the order in which they are placed
abbrev pub wanted_by : (ℕ → Option ℕ) → MemoryMap → ℕ → ℕ → List MemRec → List Wanted
wanted_by sharers map i g table =
    filter_map (λ r. record_wanted sharers i r.0 r.1) (enumerate_from 0 table) ++ filter_map (scratch_wanted map g table) all_spaces

-- one after the other, or the space of the first that has no place
abbrev pub all_placed : Sizes → MemoryMap → List Wanted → Result MemoryMap Space
all_placed sizes map [] = Ok map
all_placed sizes map (w ∷ ws) =
    option_map_or (λ place. all_placed sizes (put_block map w.space (record { owner = w.owner; place = place; size = w.size; align = w.align })) ws)
    (place_in sizes map w.space w.size w.align) (Err w.space)

-- the group's block that a new one replaces in the space
abbrev pub replaced_block : MemoryMap → ℕ → List MemRec → Space → Option Placed
replaced_block map g table space = if is_some (scratch_wanted map g table space) then group_block map g space else None

-- whether the creation replaces a block of the group
abbrev pub replaces : MemoryMap → ℕ → List MemRec → Bool
replaces map g table = list_any (λ space. is_some (replaced_block map g table space)) all_spaces

-- the memory map in which all are placed, without the group's blocks that are replaced
abbrev pub without_replaced : MemoryMap → ℕ → List MemRec → MemoryMap → MemoryMap
without_replaced old g table placed = each_space (λ space.
    let blocks = blocks_in placed space in
    option_map_or (λ b. filter (λ c. not (c.place == b.place)) blocks) (replaced_block old g table space) blocks)

-- the owner of a shared block is its sharer of the least number: where instance i comes to share what instance `owner` held, the less of them
abbrev pub taken_over : (ℕ → Option ℕ) → ℕ → Owner → Owner
taken_over sharers i (Scratch g) = Scratch g
taken_over sharers i (Record owner k) = if option_eq nat_eq (Some owner) (sharers k) && nat_lt i owner then Record i k else Record owner k

-- the memory map after the creation, or the space that had no room
abbrev pub created_map : Sizes → MemoryMap → ℕ → ℕ → List MemRec → (ℕ → Option ℕ) → Result MemoryMap Space
created_map sizes map i g table sharers =
    result_map_both (λ placed. renamed (taken_over sharers i) (without_replaced map g table placed)) (λ space. space)
    (all_placed sizes map (wanted_by sharers map i g table))

-- where instance i goes, what it shared is its next sharer's
abbrev pub handed_on : (ℕ → Option ℕ) → ℕ → Owner → Owner
handed_on sharers i (Scratch g) = Scratch g
handed_on sharers i (Record owner k) = if owner == i then Record (unwrap_or (sharers k) i) k else Record owner k

-- the memory map after a deletion: the records that no other instance shares go, and the group's blocks where no other member is left
abbrev pub deleted_map : Bool → MemoryMap → ℕ → ℕ → (ℕ → Option ℕ) → MemoryMap
deleted_map others map i g sharers =
    let left = without_owners (is_instance's i) (renamed (handed_on sharers i) map) in if others then left else without_owners (is_group's g) left
