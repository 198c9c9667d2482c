-- The blocks of one space, with their owners.
use Rattle.std.specs.Prelude.{ℕ, ◌≤◌, ◌<◌, ◌&&◌, ◌==◌, Bool, false, not, List, [], ◌∷◌, map, filter, length, nat_lt, if◌then◌else◌}
use Rattle.std.specs.List.{Contains}
use Rattle.mem_rec.specs.declared.TheConstants.{TABLE_RECORDS, GROUPS, INSTANCES}
use Rattle.relocate.specs.Places.{Range}
use Rattle.host_map.specs.declared.placed.Owner.{Owner}
use Rattle.host_map.specs.declared.placed.Owner.TheVariants.{Record, Scratch}
use Rattle.host_map.specs.declared.placed.Placed.{Placed}

-- where the blocks lie
abbrev pub ranges : List Placed → List Range
ranges blocks = map (λ b. record { place = b.place; size = b.size }) blocks

-- with one block more, in place order
abbrev pub with_block : Placed → List Placed → List Placed
with_block b [] = b ∷ []
with_block b (c ∷ cs) = if nat_lt c.place b.place then c ∷ with_block b cs else b ∷ c ∷ cs

-- ---- what contracts of code and laws say

-- where a block lies
abbrev pub block_range : Placed → Range
block_range b = record { place = b.place; size = b.size }

abbrev pub same_owner : Owner → Owner → Bool
same_owner (Record i k) (Record j l) = i == j && k == l
same_owner (Scratch g) (Scratch h) = g == h
same_owner _ _ = false

-- the blocks of one owner
abbrev pub owned : Owner → List Placed → List Placed
owned owner blocks = filter (λ b. same_owner owner b.owner) blocks

-- the blocks of all other owners
abbrev pub disowned : Owner → List Placed → List Placed
disowned owner blocks = filter (λ b. not (same_owner owner b.owner)) blocks

-- without the block that begins at the place
abbrev pub without_at : ℕ → List Placed → List Placed
without_at place blocks = filter (λ b. not (b.place == place)) blocks

-- the owner `to` for the owner `from`
abbrev pub renaming : Owner → Owner → Owner → Owner
renaming from to owner = if same_owner from owner then to else owner

-- each block with the owner that this gives for its own
abbrev pub renamed_block : (Owner → Owner) → Placed → Placed
renamed_block new b = record b { owner = new b.owner }

abbrev pub renamed_blocks : (Owner → Owner) → List Placed → List Placed
renamed_blocks new blocks = map (renamed_block new) blocks

-- the owner is a record of an instance, or a group
abbrev pub IsOwner : Owner → Type 0
IsOwner (Record i k) = (i < INSTANCES) × (k < TABLE_RECORDS)
IsOwner (Scratch g) = g < GROUPS

-- no owner has two blocks
pub record AreSingle (blocks : List Placed) : Type 0 where
  pub owners : (b : Placed) → Contains blocks b → IsOwner b.owner
  pub single : (owner : Owner) → length (owned owner blocks) ≤ 1
