-- Who shares a write-once record with its owner, and what becomes of the owner's pieces when it is deleted.
use Rattle.std.specs.Prelude.{ℕ, suc, ◌≡◌, ◌<◌, ◌≤◌, Bool, true, false, List, [], ◌∷◌, Option, Some, None, nat_eq, if◌then◌else◌}
use Rattle.space_raw.specs.Span.{Span}
use Rattle.record_loans.specs.declared.pieces.Pieces.{Pieces}
use Rattle.record_loans.specs.declared.plan.TheConstants.{CONSTANTS}
use Rattle.host_shared.specs.declared.locations.Location.{Location}
use Rattle.host_shared.specs.declared.locations.Location.TheVariants.{Here, At}
use Rattle.host_shared.specs.declared.locations.Locations.{Locations}
use Rattle.host_shared.specs.Locations.{location_at, piece_here, locations_at}

-- whether instance i is the owner that the location names
abbrev pub is_at : ℕ → Location → Bool
is_at i (Here p) = false
is_at i (At owner) = nat_eq owner i

-- whether the location names an owner
abbrev pub names_owner : Location → Bool
names_owner (Here p) = false
names_owner (At owner) = true

-- no instance numbered from `from` up to, and not with, `to` has its constants at another owner
abbrev pub NameNoOwner : List Locations → (from to : ℕ) → Type 0
NameNoOwner sharing from to = (j : ℕ) → from ≤ j → j < to → names_owner (location_at (locations_at sharing j) CONSTANTS) ≡ false

-- the least-numbered instance, counted from n, that shares record k with its owner i
abbrev pub sharer_from : ℕ → List Locations → ℕ → ℕ → Option ℕ
sharer_from n [] i k = None
sharer_from n (s ∷ sharing) i k = if is_at i (location_at s k) then Some n else sharer_from (suc n) sharing i k

-- the least-numbered instance that shares record k with its owner i
abbrev pub next_sharer : List Locations → ℕ → ℕ → Option ℕ
next_sharer sharing i k = sharer_from 0 sharing i k

-- the piece at a location, where no other instance shares it
abbrev pub piece_left : Option ℕ → Location → Option Span
piece_left None s = piece_here s
piece_left (Some next) s = None

-- the pieces that instance i owns and nobody shares
abbrev pub left_with : List Locations → ℕ → Pieces
left_with sharing i = record {
  p0 = piece_left (next_sharer sharing i 0) (location_at (locations_at sharing i) 0);
  p1 = piece_left (next_sharer sharing i 1) (location_at (locations_at sharing i) 1);
  p2 = piece_left (next_sharer sharing i 2) (location_at (locations_at sharing i) 2);
  p3 = piece_left (next_sharer sharing i 3) (location_at (locations_at sharing i) 3);
}

-- the location of a record of instance j, whose next sharer became the owner
abbrev pub location_next : Option ℕ → Location → ℕ → Location
location_next None s j = Here None
location_next (Some next) s j = if nat_eq j next then s else At next

-- the location of record k of instance j, once the next sharer became the owner in place of instance i
abbrev pub location_without : List Locations → ℕ → ℕ → ℕ → Location
location_without sharing i k j =
    if nat_eq j i
    then Here None
    else
    if is_at i (location_at (locations_at sharing j) k)
    then location_next (next_sharer sharing i k) (location_at (locations_at sharing i) k) j
    else location_at (locations_at sharing j) k

-- the location with owner `next` in place of owner i
abbrev pub pointed : ℕ → ℕ → Location → Location
pointed i next s = if is_at i s then At next else s

-- the owner of a record has the least number of those that share it
abbrev pub AreLeast : List Locations → Type 0
AreLeast sharing = (i k owner : ℕ) → location_at (locations_at sharing i) k ≡ At owner → owner < i
