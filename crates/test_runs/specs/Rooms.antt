-- Worked rows of where a creation finds no room.
use Rattle.std.specs.Prelude.{◌≡◌, ℕ, [], ◌∷◌}
use Rattle.mem_rec.specs.declared.Space.{Space}
use Rattle.mem_rec.specs.declared.Space.TheVariants.{Daram, External}
use Rattle.host_map.specs.declared.placed.Owner.TheVariants.{Record}
use Rattle.host_map.specs.declared.parts.Sizes.{Sizes}
use Rattle.host_map.specs.declared.parts.Wanted.{Wanted}
use Rattle.host_map.specs.MemoryMap.{empty_map}
use Rattle.console_spec.specs.Room.{FallsShort}

-- eight words of one space and four of another
abbrev pub small : Sizes
small = record { daram = 8; saram = 0; external = 4 }

-- a block of so many words for record k of instance 0
abbrev pub wanted_in : Space → (k size : ℕ) → Wanted
wanted_in space k size = record { owner = Record 0 k; space = space; size = size; align = 4 }

pub record RoomRows : Type 0 where
  -- the third block has no place, in the space that the first one filled in part
  pub short : FallsShort small empty_map (wanted_in Daram 0 4 ∷ wanted_in External 1 4 ∷ wanted_in Daram 2 8 ∷ []) Daram
  -- where all blocks have a place, none falls short, in any space
  pub enough : (space : Space) → FallsShort small empty_map (wanted_in Daram 0 4 ∷ wanted_in External 1 4 ∷ wanted_in Daram 2 4 ∷ []) space → ⊥
  -- it is the first block without a place whose space is told
  pub first : (space : Space) → FallsShort small empty_map (wanted_in External 0 8 ∷ wanted_in Daram 1 16 ∷ []) space → space ≡ External
