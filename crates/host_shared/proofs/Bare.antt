-- An instance that sees no piece: nothing is taken, and nothing put.
use Rattle.std.proofs.Common.{◌≡◌, ◌≢◌, ◌<◌, ℕ, zero, suc, List, [], ◌∷◌, length, set, get_or, Option, None, refl, sym, ◌∙◌, ap, arith}
use Rattle.std.proofs.lemmas.List.{set-get_or}
use Rattle.space_raw.specs.Span.{Span}
use Rattle.record_loans.specs.declared.pieces.Pieces.{Pieces}
use Rattle.record_loans.specs.Pieces.{with_piece}
use Rattle.host_shared.specs.declared.locations.Location.{Location}
use Rattle.host_shared.specs.declared.locations.Location.TheVariants.{Here}
use Rattle.host_shared.specs.declared.locations.Locations.{Locations}
use Rattle.host_shared.specs.Locations.{location_at, piece_here, no_locations, locations_at, owner_by, owner_of, piece_seen, shared_at}
use Rattle.host_shared.specs.Owners.{with_location, put_piece, with_pieces_of, HasOwner, HasOwners}
use Rattle.host_shared.proofs.Owners.{owner_after, seen_beside, lent_here}

with_same : (s : Locations) (k : ℕ) (x : Location) → location_at s k ≡ x → with_location s k x ≡ s
with_same s zero x is = ap (λ (y : Location). with_location s 0 y) (sym is)
with_same s (suc zero) x is = ap (λ (y : Location). with_location s 1 y) (sym is)
with_same s (suc (suc zero)) x is = ap (λ (y : Location). with_location s 2 y) (sym is)
with_same s (suc (suc (suc zero))) x is = ap (λ (y : Location). with_location s 3 y) (sym is)
with_same s (suc (suc (suc (suc k)))) x is = refl

-- the piece that stands at a record's owner
put_again : (sharing : List Locations) (i k : ℕ) → HasOwner sharing i k → put_piece sharing i k (piece_seen sharing i k) ≡ sharing
put_again sharing i k owner =
    let p = owner.settled in
    let here : location_at (locations_at sharing (owner_of sharing i k)) k ≡ Here (piece_seen sharing i k) = p.1 ∙ ap Here (sym (ap piece_here p.1)) in
    ap (set sharing (owner_of sharing i k)) (with_same (locations_at sharing (owner_of sharing i k)) k (Here (piece_seen sharing i k)) here) ∙ set-get_or sharing (owner_of sharing i k) no_locations

-- what an instance sees stands there
pub seen_again : (sharing : List Locations) (i : ℕ) → HasOwners sharing i → with_pieces_of sharing i (shared_at sharing i) ≡ sharing
unfolding with_pieces_of
seen_again sharing i owners = rw (put_again sharing i 0 (owners 0), put_again sharing i 1 (owners 1), put_again sharing i 2 (owners 2), put_again sharing i 3 (owners 3)) refl

-- a record without a piece
put_nothing : (sharing : List Locations) (i k : ℕ) → HasOwner sharing i k → piece_seen sharing i k ≡ None → put_piece sharing i k None ≡ sharing
put_nothing sharing i k owner none = ap (put_piece sharing i k) (sym none) ∙ put_again sharing i k owner

-- of an instance that sees no piece but maybe those of records 1 and 2, these are put alone
module _ (sharing : List Locations) (i : ℕ) (p q : Option Span) (owners : HasOwners sharing i) where
  pub owner_then : (l : ℕ) → HasOwner (put_piece sharing i 1 p) i l
  owner_then l = owner_after sharing i 1 p (owners 1) (omega arith) l (owners l)

  pub seen_then : (l : ℕ) → l ≢ 1 → piece_seen (put_piece sharing i 1 p) i l ≡ piece_seen sharing i l
  seen_then l apart = seen_beside sharing i 1 p (owners 1) (omega arith) l apart

  third_put : piece_seen sharing i 3 ≡ None → put_piece (put_piece (put_piece sharing i 1 p) i 2 q) i 3 None ≡ put_piece (put_piece sharing i 1 p) i 2 q
  third_put none =
      put_nothing (put_piece (put_piece sharing i 1 p) i 2 q) i 3
      (owner_after (put_piece sharing i 1 p) i 2 q (owner_then 2) (omega arith) 3 (owner_then 3))
      (seen_beside (put_piece sharing i 1 p) i 2 q (owner_then 2) (omega arith) 3 (omega arith) ∙ seen_then 3 (omega arith) ∙ none)

  pub two_put : (o : Pieces) → o.p0 ≡ None → o.p1 ≡ p → o.p2 ≡ q → o.p3 ≡ None
      → piece_seen sharing i 0 ≡ None → piece_seen sharing i 3 ≡ None
      → with_pieces_of sharing i o ≡ put_piece (put_piece sharing i 1 p) i 2 q
  unfolding with_pieces_of
  two_put o e0 e1 e2 e3 n0 n3 = rw (e0, e1, e2, e3, put_nothing sharing i 0 (owners 0) n0, third_put n3) refl

-- of an instance that keeps what it sees but the piece of one record, that one is put alone
module _ (sharing : List Locations) (i k : ℕ) (p : Option Span) (owners : HasOwners sharing i) (below : k < 4) where
  put_over : (l : ℕ) → l ≢ k → put_piece (put_piece sharing i k p) i l (piece_seen sharing i l) ≡ put_piece sharing i k p
  put_over l apart =
      ap (put_piece (put_piece sharing i k p) i l) (sym (seen_beside sharing i k p (owners k) below l apart))
      ∙ put_again (put_piece sharing i k p) i l (owner_after sharing i k p (owners k) below l (owners l))

-- the same, record by record
pub over_put : (sharing : List Locations) (i k : ℕ) (p : Option Span) → HasOwners sharing i → k < 4 → with_pieces_of sharing i (with_piece (shared_at sharing i) k p) ≡ put_piece sharing i k p
unfolding with_pieces_of
over_put sharing i zero p owners below = rw (put_over sharing i 0 p owners below 1 (omega arith), put_over sharing i 0 p owners below 2 (omega arith), put_over sharing i 0 p owners below 3 (omega arith)) refl
over_put sharing i (suc zero) p owners below = rw (put_again sharing i 0 (owners 0), put_over sharing i 1 p owners below 2 (omega arith), put_over sharing i 1 p owners below 3 (omega arith)) refl
over_put sharing i (suc (suc zero)) p owners below = rw (put_again sharing i 0 (owners 0), put_again sharing i 1 (owners 1), put_over sharing i 2 p owners below 3 (omega arith)) refl
over_put sharing i (suc (suc (suc zero))) p owners below = rw (put_again sharing i 0 (owners 0), put_again sharing i 1 (owners 1), put_again sharing i 2 (owners 2)) refl
over_put sharing i (suc (suc (suc (suc k)))) p owners below = absurd (omega (arith, below))

module _ (sharing : List Locations) (i k : ℕ) (p : Option Span) (owners : HasOwners sharing i) (below : k < 4) where
  pub seen_over : (sharing' : List Locations) → sharing' ≡ put_piece sharing i k p → shared_at sharing' i ≡ with_piece (shared_at sharing i) k p
  seen_over sharing' is = ap (λ (s : List Locations). shared_at s i) (is ∙ sym (over_put sharing i k p owners below)) ∙ lent_here sharing i owners (with_piece (shared_at sharing i) k p)

  pub locations_over : (sharing' : List Locations) → sharing' ≡ put_piece sharing i k p → sharing' ≡ with_pieces_of sharing i (shared_at sharing' i)
  locations_over sharing' is = rw (seen_over sharing' is) (is ∙ sym (over_put sharing i k p owners below))

-- where an instance has no piece, and names no owner, it sees none
pub nothing_seen : (sharing : List Locations) (i k : ℕ) → location_at (locations_at sharing i) k ≡ Here None → piece_seen sharing i k ≡ None
nothing_seen sharing i k here =
    ap (λ (h : ℕ). piece_here (location_at (locations_at sharing h) k)) (ap (owner_by i) here) ∙ ap piece_here here

-- a locations that was read is the one that stands there
pub read_locations : (sharing : List Locations) (i : ℕ) (s : Locations) → i < length sharing → s ≡ get_or sharing i s → locations_at sharing i ≡ s
read_locations [] i s inside read = absurd (omega (arith, inside))
read_locations (t ∷ sharing) zero s inside read = sym read
read_locations (t ∷ sharing) (suc i) s inside read = read_locations sharing i s (omega (arith, inside)) read

-- the locations that are read at the owner of record 2 of an instance, whose piece is there
