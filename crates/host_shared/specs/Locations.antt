-- Where the pieces of write-once records are: each with its instance, or at the owner, another one whose record is equal.
use Rattle.std.specs.Prelude.{ℕ, zero, suc, ◌≡◌, List, Option, None, slice_index_or, ◌≢◌}
use Rattle.space_raw.specs.Span.{Span}
use Rattle.record_loans.specs.declared.pieces.Pieces.{Pieces}
use Rattle.host_shared.specs.declared.locations.Location.{Location}
use Rattle.host_shared.specs.declared.locations.Location.TheVariants.{Here, At}
use Rattle.host_shared.specs.declared.locations.Locations.{Locations}

-- where the piece of record k is
abbrev pub location_at : Locations → ℕ → Location
location_at s zero = s.s0
location_at s (suc zero) = s.s1
location_at s (suc (suc zero)) = s.s2
location_at s (suc (suc (suc zero))) = s.s3
location_at s (suc (suc (suc (suc k)))) = Here None

-- the piece, if it is here
abbrev pub piece_here : Location → Option Span
piece_here (Here p) = p
piece_here (At owner) = None

-- the pieces that are here
abbrev pub pieces_here : Locations → Pieces
pieces_here s = record { p0 = piece_here s.s0; p1 = piece_here s.s1; p2 = piece_here s.s2; p3 = piece_here s.s3 }

-- these pieces, each of which is here
abbrev pub locations_of : Pieces → Locations
locations_of o = record { s0 = Here o.p0; s1 = Here o.p1; s2 = Here o.p2; s3 = Here o.p3 }

abbrev pub no_locations : Locations
no_locations = record { s0 = Here None; s1 = Here None; s2 = Here None; s3 = Here None }

abbrev pub locations_at : List Locations → ℕ → Locations
locations_at sharing i = slice_index_or sharing i no_locations

-- each other record than the k-th is where it was
abbrev pub OtherRecordsStay : ℕ → List Locations → List Locations → Type 0
OtherRecordsStay k old new = (j l : ℕ) → l ≢ k → location_at (locations_at new j) l ≡ location_at (locations_at old j) l

-- the owner of a record of instance i
abbrev pub owner_by : ℕ → Location → ℕ
owner_by i (Here p) = i
owner_by i (At owner) = owner

abbrev pub owner_of : List Locations → ℕ → ℕ → ℕ
owner_of sharing i k = owner_by i (location_at (locations_at sharing i) k)

-- the piece of record k of instance i, which is at the record's owner
abbrev pub piece_seen : List Locations → ℕ → ℕ → Option Span
piece_seen sharing i k = piece_here (location_at (locations_at sharing (owner_of sharing i k)) k)

-- the pieces of an instance's write-once records, each at its record's owner
abbrev pub shared_at : List Locations → ℕ → Pieces
shared_at sharing i = record { p0 = piece_seen sharing i 0; p1 = piece_seen sharing i 1; p2 = piece_seen sharing i 2; p3 = piece_seen sharing i 3 }

-- an instance owns each of its pieces
abbrev pub IsUnshared : List Locations → ℕ → Type 0
IsUnshared sharing i = locations_at sharing i ≡ locations_of (shared_at sharing i)
