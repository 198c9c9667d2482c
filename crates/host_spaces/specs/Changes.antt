-- What a call changes in the blocks of a space.
use Rattle.std.specs.Prelude.{ℕ, ◌≡◌, ◌≢◌, ◌+◌, ◌<◌, ◌≤◌, List, [], ◌∷◌, length, slice_index_or, Option, Some, IfSome, IsSome}
use Rattle.std.specs.Option.{option_map}
use Rattle.space_raw.specs.Span.{Span}
use Rattle.relocate.specs.Places.{least_place, placed_size}
use Rattle.relocate.specs.declared.packing.Move.{Move}
use Rattle.host_map.specs.declared.placed.Owner.{Owner}
use Rattle.host_map.specs.declared.placed.Placed.{Placed}
use Rattle.host_map.specs.Blocks.{AreSingle, IsOwner, block_range, disowned, owned, ranges, renamed_blocks, with_block, without_at}
use Rattle.host_map.specs.Moves.{next_block, next_in}
use Rattle.space_heap.specs.Maps.{range_of}
use Rattle.host_spaces.specs.Blocks.{Owns, block_of, block_of_piece}
use Rattle.host_spaces.specs.Spaces.{SpaceState}

-- the piece stands at the least place that is free for so many words at this alignment, and there is none where no place is
abbrev pub IsAtLeastPlace : Option Span → SpaceState → ℕ → ℕ → Type 0
IsAtLeastPlace piece s words align = option_map (λ (p : Span). p.place) piece ≡ least_place s.region.size (ranges s.blocks) (placed_size words) align

-- the piece is one of the space, and holds so many words
abbrev pub IsPieceOf : Option Span → SpaceState → ℕ → Type 0
IsPieceOf piece s words = IfSome piece (λ (p : Span). (p.region ≡ s.region) × (length p.words ≡ placed_size words))

-- the piece is one more of the blocks
abbrev pub IsAdded : Option Span → Owner → ℕ → List Placed → List Placed → Type 0
IsAdded piece owner align old new = IfSome piece (λ (p : Span). new ≡ with_block (block_of owner align p) old)

-- the piece is one more of the owner's blocks
abbrev pub IsOwned : Option Span → Owner → ℕ → List Placed → List Placed → Type 0
IsOwned piece owner align old new = IfSome piece (λ (p : Span). owned owner new ≡ with_block (block_of owner align p) (owned owner old))

-- without the piece, the blocks are those from before
abbrev pub IsAllThatIsNew : Option Span → List Placed → List Placed → Type 0
IsAllThatIsNew piece old new = IfSome piece (λ (p : Span). without_at p.place new ≡ old)

-- all others have the same blocks
abbrev pub OthersStay : Owner → List Placed → List Placed → Type 0
OthersStay owner old new = (o : Owner) → o ≢ owner → owned o new ≡ owned o old

-- all but the owner of this piece have the same blocks
abbrev pub OthersStayBeside : Span → List Placed → List Placed → Type 0
OthersStayBeside piece old new = (owner o : Owner) → Owns old owner piece → o ≢ owner → owned o new ≡ owned o old

-- all but the owner of this piece, if there is one, have the same blocks
abbrev pub OthersStayBesideAny : Option Span → List Placed → List Placed → Type 0
OthersStayBesideAny piece old new = (owner o : Owner) → IfSome piece (Owns old owner) → o ≢ owner → owned o new ≡ owned o old

-- where the piece was its owner's one block, the blocks are those of the others
abbrev pub LeavesItsOwner : Span → List Placed → List Placed → Type 0
LeavesItsOwner piece old new = (owner : Owner) (align : ℕ) → owned owner old ≡ block_of owner align piece ∷ [] → new ≡ disowned owner old

-- where the piece, if there is one, was its owner's one block, the blocks are those of the others
abbrev pub LeavesAnyOwner : Option Span → List Placed → List Placed → Type 0
LeavesAnyOwner piece old new = (owner : Owner) (align : ℕ) → owned owner old ≡ block_of_piece owner align piece → new ≡ disowned owner old

-- where the one piece was its owner's one block, the other one is
abbrev pub GoesOnAs : Span → Span → List Placed → List Placed → Type 0
GoesOnAs piece there old new = (owner : Owner) (align : ℕ) → owned owner old ≡ block_of owner align piece ∷ [] → owned owner new ≡ block_of owner align there ∷ []

-- the one owner has the other's blocks, where it had none
abbrev pub IsRenamedTo : Owner → Owner → List Placed → List Placed → Type 0
IsRenamedTo from to old new = owned to old ≡ [] → owned to new ≡ renamed_blocks (λ _. to) (owned from old)

-- all but these two have the same blocks
abbrev pub AllButBothStay : Owner → Owner → List Placed → List Placed → Type 0
AllButBothStay one other old new = (o : Owner) → o ≢ one → o ≢ other → owned o new ≡ owned o old

-- where each record has one block at most, and this owner had none, each has one block at most again
abbrev pub StaySingle : Owner → List Placed → List Placed → Type 0
StaySingle owner old new = AreSingle old → IsOwner owner → owned owner old ≡ [] → AreSingle new

-- the first n blocks begin before the place
abbrev pub FirstAreBefore : ℕ → ℕ → List Placed → Type 0
FirstAreBefore place n blocks = (k : ℕ) (d : Placed) → k < n → (slice_index_or blocks k d).place < place

-- the others begin at the place or behind it
abbrev pub OthersAreBehind : ℕ → ℕ → List Placed → Type 0
OthersAreBehind place n blocks = (k : ℕ) (d : Placed) → n ≤ k → k < length blocks → place ≤ (slice_index_or blocks k d).place

-- the piece is the block that moves next
abbrev pub IsNextToMove : Span → List Placed → Type 0
IsNextToMove piece blocks = option_map block_range (next_block blocks) ≡ Some (range_of piece)

-- the block of this index moves next
abbrev pub IsIndexOfNext : ℕ → List Placed → Type 0
IsIndexOfNext index blocks = option_map (λ (m : Move). m.index) (next_in blocks) ≡ Some index

-- the next move goes to this place
abbrev pub IsPlaceOfNext : ℕ → List Placed → Type 0
IsPlaceOfNext place blocks = option_map (λ (m : Move). m.to) (next_in blocks) ≡ Some place

-- where there is an answer, the block that moves next is the last of the first n
abbrev pub MovesLastOf : ℕ → Option Placed → List Placed → Type 0
MovesLastOf n answer blocks = IsSome answer → option_map (λ (m : Move). m.index + 1) (next_in blocks) ≡ Some n
