-- The pieces that an instance shares, taken off the locations and put back, or lent where they stand.
use Rattle.std.proofs.Common.{◌≡◌, ℕ, List, Option, slice_index_or, slice_set, sym, ap, ◌∙◌}
use Rattle.space_raw.specs.Span.{Span}
use Rattle.record_loans.specs.declared.pieces.Pieces.{Pieces}
use Rattle.record_loans.specs.Pieces.{no_pieces}
use Rattle.host_shared.specs.declared.locations.Locations.{Locations}
use Rattle.host_shared.specs.declared.locations.Location.TheVariants.{Here, At}
use Rattle.host_shared.specs.Locations.{location_at, locations_at, owner_of, piece_here, piece_seen, shared_at}
use Rattle.host_shared.specs.Owners.{with_location, put_piece, with_pieces_of, HasOwners}
use Rattle.host_shared.proofs.Bare.{read_locations, seen_again}
use Rattle.host_shared.proofs.Owners.{lent_here}
use Rattle.host_shared.proofs.Lent.{put_back}

-- the pieces were taken off the locations, and put back
module _ (i : ℕ) (sharing sharing' sharing'' : List Locations) (owners : HasOwners sharing i) (p : Pieces) (taken : sharing' ≡ with_pieces_of sharing i no_pieces) (put : sharing'' ≡ with_pieces_of sharing' i p) where
  pub seen_back : shared_at sharing'' i ≡ p
  seen_back = rw (put_back sharing i owners sharing' sharing'' p taken put) (lent_here sharing i owners p)

  pub locations_back : sharing'' ≡ with_pieces_of sharing i (shared_at sharing'' i)
  locations_back = rw seen_back (put_back sharing i owners sharing' sharing'' p taken put)

  -- and with them nothing changed
  pub all_back : p ≡ shared_at sharing i → sharing'' ≡ sharing
  all_back same = put_back sharing i owners sharing' sharing'' p taken put ∙ ap (with_pieces_of sharing i) same ∙ seen_again sharing i owners

here_there : (p : Option Span) (owner : ℕ) → Here p ≡ At owner → ⊥
here_there p owner e = cc

-- the piece of a record is lent where it stands
module _ (sharing : List Locations) (i k at : ℕ) (owners : HasOwners sharing i) (is : at ≡ owner_of sharing i k) (s : Locations) (read : s ≡ slice_index_or sharing at s) where
  stands : locations_at sharing (owner_of sharing i k) ≡ s
  stands = ap (locations_at sharing) (sym is) ∙ read_locations sharing at s (rw is (owners k).inside) read

  pub seen_there : (p : Option Span) → location_at s k ≡ Here p → p ≡ piece_seen sharing i k
  seen_there p here = sym (ap (λ (l : Locations). piece_here (location_at l k)) stands ∙ ap piece_here here)

  pub not_elsewhere : (owner : ℕ) → location_at s k ≡ At owner → ⊥
  not_elsewhere owner there =
      let settled = (owners k).settled in
      here_there settled.0 owner (sym settled.1 ∙ ap (λ (l : Locations). location_at l k) stands ∙ there)

  pub put_there : (q : Option Span) → slice_set sharing at (with_location s k (Here q)) ≡ put_piece sharing i k q
  put_there q =
      ap (λ (h : ℕ). slice_set sharing h (with_location s k (Here q))) is
      ∙ ap (λ (l : Locations). slice_set sharing (owner_of sharing i k) (with_location l k (Here q))) (sym stands)
