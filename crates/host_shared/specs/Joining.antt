-- Where the pieces are once a new instance shares records with others, its sharers.
use Rattle.std.specs.Prelude.{ℕ, zero, suc, ◌≡◌, List, Option, Some, None, nat_eq, nat_lt, if◌then◌else◌}
use Rattle.space_raw.specs.Span.{Span}
use Rattle.record_loans.specs.declared.pieces.Pieces.{Pieces}
use Rattle.host_shared.specs.declared.locations.Location.{Location}
use Rattle.host_shared.specs.declared.locations.Location.TheVariants.{Here, At}
use Rattle.host_shared.specs.declared.locations.Locations.{Locations}
use Rattle.host_shared.specs.declared.joining.Sharers.{Sharers}
use Rattle.host_shared.specs.Locations.{location_at, locations_at, owner_of, piece_seen}
use Rattle.host_shared.specs.Owners.{IsPieceHere}

-- the sharer of record k
abbrev pub sharer_at : Sharers → ℕ → Option ℕ
sharer_at t zero = t.t0
sharer_at t (suc zero) = t.t1
sharer_at t (suc (suc zero)) = t.t2
sharer_at t (suc (suc (suc zero))) = t.t3
sharer_at t (suc (suc (suc (suc k)))) = None

-- the location of record k of instance j, once instance i is the owner in place of `sharer`
abbrev pub location_over : List Locations → ℕ → ℕ → ℕ → ℕ → Location
location_over sharing i k sharer j =
    if nat_eq j i
    then location_at (locations_at sharing sharer) k
    else
    if nat_eq (owner_of sharing j k) sharer
    then At i
    else location_at (locations_at sharing j) k

-- the location of record k of instance j, where that of instance i is this one
abbrev pub location_beside : List Locations → ℕ → ℕ → Location → ℕ → Location
location_beside sharing i k s j = if nat_eq j i then s else location_at (locations_at sharing j) k

-- the location of record k of instance j, once instance i shares it: without a sharer the piece is its own; else the one with the lower
-- number is the owner
abbrev pub location_joined : List Locations → ℕ → ℕ → Option ℕ → Option Span → ℕ → Location
location_joined sharing i k None p j = location_beside sharing i k (Here p) j
location_joined sharing i k (Some sharer) p j = if nat_lt sharer i then location_beside sharing i k (At sharer) j else location_over sharing i k sharer j

-- the piece of the new instance: the one that was placed for it, or its sharer's
abbrev pub piece_joined : List Locations → ℕ → Option ℕ → Option Span → Option Span
piece_joined sharing k None p = p
piece_joined sharing k (Some sharer) p = piece_seen sharing sharer k

abbrev pub pieces_joined : List Locations → Sharers → Pieces → Pieces
pieces_joined sharing sharers placed = record {
  p0 = piece_joined sharing 0 sharers.t0 placed.p0;
  p1 = piece_joined sharing 1 sharers.t1 placed.p1;
  p2 = piece_joined sharing 2 sharers.t2 placed.p2;
  p3 = piece_joined sharing 3 sharers.t3 placed.p3;
}

-- the sharer has the piece, and none was placed
pub record HasPiece (sharing : List Locations) (k sharer : ℕ) (p : Option Span) : Type 0 where
  pub here : IsPieceHere (location_at (locations_at sharing sharer) k)
  pub none : p ≡ None

abbrev pub CanJoin : List Locations → ℕ → Option ℕ → Option Span → Type 0
CanJoin sharing k None p = Unit {0}
CanJoin sharing k (Some sharer) p = HasPiece sharing k sharer p
