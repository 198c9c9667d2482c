-- The blocks of one space, with their owners.
use Rattle.std.specs.Prelude.{ℕ, List, [], ◌∷◌, length, Option, Some, None}
use Rattle.std.specs.List.{Contains}
use Rattle.space_raw.specs.Span.{Span}
use Rattle.host_map.specs.declared.placed.Owner.{Owner}
use Rattle.host_map.specs.declared.placed.Placed.{Placed}
use Rattle.host_map.specs.Blocks.{owned, without_at}

-- the piece as a block
abbrev pub block_of : Owner → ℕ → Span → Placed
block_of owner align p = record { owner = owner; place = p.place; size = length p.words; align = align }

-- the blocks of an owner that has this piece, or none
abbrev pub block_of_piece : Owner → ℕ → Option Span → List Placed
block_of_piece owner align None = []
block_of_piece owner align (Some p) = block_of owner align p ∷ []

-- without the block that the piece is, if there is one
abbrev pub without_piece : Option Span → List Placed → List Placed
without_piece None blocks = blocks
without_piece (Some p) blocks = without_at p.place blocks

-- one of the owner's blocks lies where the piece does
abbrev pub Owns : List Placed → Owner → Span → Type 0
Owns blocks owner p = (align : ℕ) × Contains (owned owner blocks) (block_of owner align p)
