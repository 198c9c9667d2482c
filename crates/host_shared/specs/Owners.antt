-- Pieces at the owners of records, and that each record has an owner.
use Rattle.std.specs.Prelude.{ℕ, zero, suc, ◌≡◌, ◌<◌, List, length, Option, Some, slice_set}
use Rattle.space_raw.specs.Span.{Span}
use Rattle.record_loans.specs.declared.pieces.Pieces.{Pieces}
use Rattle.record_loans.specs.Pieces.{IsSamePiece}
use Rattle.host_shared.specs.declared.locations.Location.{Location}
use Rattle.host_shared.specs.declared.locations.Location.TheVariants.{Here, At}
use Rattle.host_shared.specs.declared.locations.Locations.{Locations}
use Rattle.host_shared.specs.Locations.{location_at, locations_at, owner_of, shared_at}

-- the locations, with another one of record k
abbrev pub with_location : Locations → ℕ → Location → Locations
with_location s zero x = record s { s0 = x }
with_location s (suc zero) x = record s { s1 = x }
with_location s (suc (suc zero)) x = record s { s2 = x }
with_location s (suc (suc (suc zero))) x = record s { s3 = x }
with_location s (suc (suc (suc (suc k)))) x = s

-- the same of record k of instance i
abbrev pub set_location : List Locations → ℕ → ℕ → Location → List Locations
set_location sharing i k x = slice_set sharing i (with_location (locations_at sharing i) k x)

-- with this piece at the owner of record k of instance i
abbrev pub put_piece : List Locations → ℕ → ℕ → Option Span → List Locations
put_piece sharing i k p = set_location sharing (owner_of sharing i k) k (Here p)

-- with these pieces of instance i, each at the owner of its record
unfoldable pub with_pieces_of : List Locations → ℕ → Pieces → List Locations
with_pieces_of sharing i o = put_piece (put_piece (put_piece (put_piece sharing i 0 o.p0) i 1 o.p1) i 2 o.p2) i 3 o.p3

-- all stands as it did, but for the pieces that instance i sees
abbrev pub OnlyItsPiecesChange : ℕ → List Locations → List Locations → Type 0
OnlyItsPiecesChange i sharing sharing' = sharing' ≡ with_pieces_of sharing i (shared_at sharing' i)

-- the owner of record k of instance i is in the table, and the piece has its place there
pub record HasOwner (sharing : List Locations) (i k : ℕ) : Type 0 where
  pub inside : owner_of sharing i k < length sharing
  pub settled : (p : Option Span) × (location_at (locations_at sharing (owner_of sharing i k)) k ≡ Here p)

abbrev pub HasOwners : List Locations → ℕ → Type 0
HasOwners sharing i = (k : ℕ) → HasOwner sharing i k

-- there is a piece here
abbrev pub IsPieceHere : Location → Type 0
IsPieceHere s = (p : Span) × (s ≡ Here (Some p))

-- each record whose location names an owner has its piece there
abbrev pub AllHaveOwners : List Locations → Type 0
AllHaveOwners sharing = (i k owner : ℕ) → location_at (locations_at sharing i) k ≡ At owner → IsPieceHere (location_at (locations_at sharing owner) k)

-- whoever shares record k with owner i finds its piece there
abbrev pub HoldsForOthers : List Locations → ℕ → ℕ → Type 0
HoldsForOthers sharing i k = (j : ℕ) → location_at (locations_at sharing j) k ≡ At i → IsPieceHere (location_at (locations_at sharing i) k)

-- the same location, with a piece whose words may differ
abbrev pub IsSameLocation : Location → Location → Type 0
IsSameLocation (Here p) (Here q) = IsSamePiece p q
IsSameLocation (Here p) (At owner) = ⊥
IsSameLocation (At owner) new = new ≡ At owner

-- each piece is where it was, and its words may differ
abbrev pub SameLocations : List Locations → List Locations → Type 0
SameLocations sharing sharing' = (i k : ℕ) → IsSameLocation (location_at (locations_at sharing i) k) (location_at (locations_at sharing' i) k)
