-- What is seen of the locations, where pieces are put at the owners of records.
use Rattle.std.proofs.Common.{◌≡◌, ◌≢◌, ℕ, zero, suc, ◌<◌, ◌≤◌, inl, inr, List, length, Option, get_or-set_same, get_or-set_other, nat_eq, if◌then◌else◌, refl, sym, ◌∙◌, ap, subst, arith}
use Rattle.std.proofs.lemmas.Bool.Decides.{eqb_tells}
use Rattle.std.proofs.lemmas.List.{length-set}
use Rattle.space_raw.specs.Span.{Span}
use Rattle.record_loans.specs.declared.pieces.Pieces.{Pieces}
use Rattle.record_loans.specs.Pieces.{piece_at}
use Rattle.host_shared.specs.declared.locations.Location.{Location}
use Rattle.host_shared.specs.declared.locations.Location.TheVariants.{Here}
use Rattle.host_shared.specs.declared.locations.Locations.{Locations}
use Rattle.host_shared.specs.Locations.{location_at, piece_here, no_locations, locations_at, owner_by, owner_of, piece_seen, shared_at}
use Rattle.host_shared.specs.Owners.{with_location, set_location, put_piece, with_pieces_of, HasOwner, HasOwners}
use Rattle.host_shared.proofs.Stands.{four_pieces}

with_same : (s : Locations) (k : ℕ) (x : Location) → k < 4 → location_at (with_location s k x) k ≡ x
with_same s zero x below = refl
with_same s (suc zero) x below = refl
with_same s (suc (suc zero)) x below = refl
with_same s (suc (suc (suc zero))) x below = refl
with_same s (suc (suc (suc (suc k)))) x below = absurd (omega (arith, below))

with_other : (s : Locations) (k l : ℕ) (x : Location) → l ≢ k → location_at (with_location s k x) l ≡ location_at s l
with_other s zero zero x apart = absurd (apart refl)
with_other s zero (suc zero) x apart = refl
with_other s zero (suc (suc zero)) x apart = refl
with_other s zero (suc (suc (suc zero))) x apart = refl
with_other s zero (suc (suc (suc (suc l)))) x apart = refl
with_other s (suc zero) zero x apart = refl
with_other s (suc zero) (suc zero) x apart = absurd (apart refl)
with_other s (suc zero) (suc (suc zero)) x apart = refl
with_other s (suc zero) (suc (suc (suc zero))) x apart = refl
with_other s (suc zero) (suc (suc (suc (suc l)))) x apart = refl
with_other s (suc (suc zero)) zero x apart = refl
with_other s (suc (suc zero)) (suc zero) x apart = refl
with_other s (suc (suc zero)) (suc (suc zero)) x apart = absurd (apart refl)
with_other s (suc (suc zero)) (suc (suc (suc zero))) x apart = refl
with_other s (suc (suc zero)) (suc (suc (suc (suc l)))) x apart = refl
with_other s (suc (suc (suc zero))) zero x apart = refl
with_other s (suc (suc (suc zero))) (suc zero) x apart = refl
with_other s (suc (suc (suc zero))) (suc (suc zero)) x apart = refl
with_other s (suc (suc (suc zero))) (suc (suc (suc zero))) x apart = absurd (apart refl)
with_other s (suc (suc (suc zero))) (suc (suc (suc (suc l)))) x apart = refl
with_other s (suc (suc (suc (suc k)))) l x apart = refl

-- the stands of one record, where the one of instance i was set
pub set_location_here : (sharing : List Locations) (i k : ℕ) (x : Location) → i < length sharing → k < 4 → location_at (locations_at (set_location sharing i k x) i) k ≡ x
set_location_here sharing i k x inside below =
    ap (λ (s : Locations). location_at s k) (get_or-set_same sharing i (with_location (locations_at sharing i) k x) no_locations inside) ∙ with_same (locations_at sharing i) k x below

pub set_location_there : (sharing : List Locations) (i j k l : ℕ) (x : Location) → j ≢ i → location_at (locations_at (set_location sharing i k x) j) l ≡ location_at (locations_at sharing j) l
set_location_there sharing i j k l x apart = ap (λ (s : Locations). location_at s l) (get_or-set_other sharing i j (with_location (locations_at sharing i) k x) no_locations apart)

-- and those of another record
pub set_location_beside : (sharing : List Locations) (i j k l : ℕ) (x : Location) → i < length sharing → l ≢ k → location_at (locations_at (set_location sharing i k x) j) l ≡ location_at (locations_at sharing j) l
set_location_beside sharing i j k l x inside apart =
    elim (eqb_tells j i) [
      | inl e ↦ rw e.1 (ap (λ (s : Locations). location_at s l) (get_or-set_same sharing i (with_location (locations_at sharing i) k x) no_locations inside) ∙ with_other (locations_at sharing i) k l x apart)
      | inr e ↦ set_location_there sharing i j k l x e.1
    ]

module _ (sharing sharing' : List Locations) (i k : ℕ) (x : Location) (is : sharing' ≡ set_location sharing i k x) where
  pub replaced_here : i < length sharing → k < 4 → location_at (locations_at sharing' i) k ≡ x
  replaced_here inside below = rw is (set_location_here sharing i k x inside below)

  pub replaced_there : (j : ℕ) → j ≢ i → location_at (locations_at sharing' j) k ≡ location_at (locations_at sharing j) k
  replaced_there j apart = rw is (set_location_there sharing i j k k x apart)

  pub replaced_beside : i < length sharing → (j l : ℕ) → l ≢ k → location_at (locations_at sharing' j) l ≡ location_at (locations_at sharing j) l
  replaced_beside inside j l apart = rw is (set_location_beside sharing i j k l x inside apart)

-- the stand of instance j, where the piece p was put at the owner h
abbrev pub lent_location : ℕ → Option Span → ℕ → Location → Location
lent_location h p j s = if nat_eq j h then Here p else s

pub lent_at : (h : ℕ) (p : Option Span) (j : ℕ) (s : Location) → j ≡ h → lent_location h p j s ≡ Here p
lent_at h p j s owner =
    elim (eqb_tells j h) [
      | inl e ↦ rw e.0 refl
      | inr e ↦ absurd (e.1 owner)
    ]

pub lent_apart : (h : ℕ) (p : Option Span) (j : ℕ) (s : Location) → j ≢ h → lent_location h p j s ≡ s
lent_apart h p j s apart =
    elim (eqb_tells j h) [
      | inl e ↦ absurd (apart e.1)
      | inr e ↦ rw e.0 refl
    ]

-- one piece is put at its owner
module _ (sharing : List Locations) (i k : ℕ) (p : Option Span) (owner : HasOwner sharing i k) (below : k < 4) where
  pub put_column : (j : ℕ) → location_at (locations_at (put_piece sharing i k p) j) k ≡ lent_location (owner_of sharing i k) p j (location_at (locations_at sharing j) k)
  put_column j =
      let h = owner_of sharing i k in
      elim (eqb_tells j h) [
        | inl e ↦ rw e.0 (rw e.1 (set_location_here sharing h k (Here p) owner.inside below))
        | inr e ↦ rw e.0 (set_location_there sharing h j k k (Here p) e.1)
      ]

  pub put_beside : (l j : ℕ) → l ≢ k → location_at (locations_at (put_piece sharing i k p) j) l ≡ location_at (locations_at sharing j) l
  put_beside l j apart = set_location_beside sharing (owner_of sharing i k) j k l (Here p) owner.inside apart

  owner_same : owner_of (put_piece sharing i k p) i k ≡ owner_of sharing i k
  owner_same =
      let h = owner_of sharing i k in
      elim (eqb_tells i h) [
        | inl e ↦ ap (owner_by i) (put_column i ∙ lent_at h p i (location_at (locations_at sharing i) k) e.1) ∙ e.1
        | inr e ↦ ap (owner_by i) (put_column i ∙ lent_apart h p i (location_at (locations_at sharing i) k) e.1)
      ]

  owner_stays : (l : ℕ) → owner_of (put_piece sharing i k p) i l ≡ owner_of sharing i l
  owner_stays l =
      elim (eqb_tells l k) [
        | inl e ↦ rw e.1 owner_same
        | inr e ↦ ap (owner_by i) (put_beside l i e.1)
      ]

  has_owner_same : HasOwner (put_piece sharing i k p) i k
  has_owner_same = record {
    inside = rw owner_same (simp length-set owner.inside);
    settled = (p, ap (λ (x : ℕ). location_at (locations_at (put_piece sharing i k p) x) k) owner_same ∙ put_column (owner_of sharing i k) ∙ lent_at (owner_of sharing i k) p (owner_of sharing i k) _ refl);
  }

  pub owner_after : (l : ℕ) → HasOwner sharing i l → HasOwner (put_piece sharing i k p) i l
  owner_after l other =
      elim (eqb_tells l k) [
        | inl e ↦ rw e.1 has_owner_same
        | inr e ↦ record {
          inside = rw (owner_stays l) (simp length-set other.inside);
          settled = (other.settled.0, ap (λ (x : ℕ). location_at (locations_at (put_piece sharing i k p) x) l) (owner_stays l) ∙ put_beside l (owner_of sharing i l) e.1 ∙ other.settled.1);
        }
      ]

  pub seen_beside : (l : ℕ) → l ≢ k → piece_seen (put_piece sharing i k p) i l ≡ piece_seen sharing i l
  seen_beside l apart =
      ap (λ (x : ℕ). piece_here (location_at (locations_at (put_piece sharing i k p) x) l)) (owner_stays l)
      ∙ ap piece_here (put_beside l (owner_of sharing i l) apart)

pub lent_by : (h h' : ℕ) (p : Option Span) (j : ℕ) (s s' : Location) → h ≡ h' → s ≡ s' → lent_location h p j s ≡ lent_location h' p j s'
lent_by h h' p j s s' e f = ap (λ (x : ℕ). lent_location x p j s) e ∙ ap (lent_location h' p j) f

-- the pieces are put one after the other
module _ (sharing : List Locations) (i : ℕ) (owners : HasOwners sharing i) (o : Pieces) where
  abbrev pub with1 : List Locations
  with1 = put_piece sharing i 0 o.p0

  abbrev pub with2 : List Locations
  with2 = put_piece with1 i 1 o.p1

  abbrev pub with3 : List Locations
  with3 = put_piece with2 i 2 o.p2

  pub owners1 : HasOwners with1 i
  owners1 l = owner_after sharing i 0 o.p0 (owners 0) (omega arith) l (owners l)

  pub owners2 : HasOwners with2 i
  owners2 l = owner_after with1 i 1 o.p1 (owners1 1) (omega arith) l (owners1 l)

  pub owners3 : HasOwners with3 i
  owners3 l = owner_after with2 i 2 o.p2 (owners2 2) (omega arith) l (owners2 l)

  pub owners_lent : HasOwners (with_pieces_of sharing i o) i
  unfolding with_pieces_of
  owners_lent l = owner_after with3 i 3 o.p3 (owners3 3) (omega arith) l (owners3 l)

  pub seen1 : (l : ℕ) → l ≢ 0 → piece_seen with1 i l ≡ piece_seen sharing i l
  seen1 l apart = seen_beside sharing i 0 o.p0 (owners 0) (omega arith) l apart

  pub seen2 : (l : ℕ) → l ≢ 0 → l ≢ 1 → piece_seen with2 i l ≡ piece_seen sharing i l
  seen2 l apart0 apart1 = seen_beside with1 i 1 o.p1 (owners1 1) (omega arith) l apart1 ∙ seen1 l apart0

  pub seen3 : (l : ℕ) → l ≢ 0 → l ≢ 1 → l ≢ 2 → piece_seen with3 i l ≡ piece_seen sharing i l
  seen3 l apart0 apart1 apart2 = seen_beside with2 i 2 o.p2 (owners2 2) (omega arith) l apart2 ∙ seen2 l apart0 apart1

  stays1 : (l j : ℕ) → l ≢ 0 → location_at (locations_at with1 j) l ≡ location_at (locations_at sharing j) l
  stays1 l j apart = put_beside sharing i 0 o.p0 (owners 0) (omega arith) l j apart

  stays2 : (l j : ℕ) → l ≢ 1 → location_at (locations_at with2 j) l ≡ location_at (locations_at with1 j) l
  stays2 l j apart = put_beside with1 i 1 o.p1 (owners1 1) (omega arith) l j apart

  stays3 : (l j : ℕ) → l ≢ 2 → location_at (locations_at with3 j) l ≡ location_at (locations_at with2 j) l
  stays3 l j apart = put_beside with2 i 2 o.p2 (owners2 2) (omega arith) l j apart

  stays4 : (l j : ℕ) → l ≢ 3 → location_at (locations_at (with_pieces_of sharing i o) j) l ≡ location_at (locations_at with3 j) l
  unfolding with_pieces_of
  stays4 l j apart = put_beside with3 i 3 o.p3 (owners3 3) (omega arith) l j apart

  column4 : (j : ℕ) → location_at (locations_at (with_pieces_of sharing i o) j) 3 ≡ lent_location (owner_of with3 i 3) o.p3 j (location_at (locations_at with3 j) 3)
  unfolding with_pieces_of
  column4 j = put_column with3 i 3 o.p3 (owners3 3) (omega arith) j

  same1 : (l j : ℕ) → l ≢ 0 → location_at (locations_at with1 j) l ≡ location_at (locations_at sharing j) l
  same1 l j apart = stays1 l j apart

  same2 : (l j : ℕ) → l ≢ 0 → l ≢ 1 → location_at (locations_at with2 j) l ≡ location_at (locations_at sharing j) l
  same2 l j apart0 apart1 = stays2 l j apart1 ∙ stays1 l j apart0

  same3 : (l j : ℕ) → l ≢ 0 → l ≢ 1 → l ≢ 2 → location_at (locations_at with3 j) l ≡ location_at (locations_at sharing j) l
  same3 l j apart0 apart1 apart2 = stays3 l j apart2 ∙ same2 l j apart0 apart1

  -- where the records stand afterwards
  pub location_seen : (k j : ℕ) → k < 4 → location_at (locations_at (with_pieces_of sharing i o) j) k ≡ lent_location (owner_of sharing i k) (piece_at o k) j (location_at (locations_at sharing j) k)
  location_seen zero j below =
      stays4 0 j (omega arith) ∙ stays3 0 j (omega arith) ∙ stays2 0 j (omega arith)
      ∙ put_column sharing i 0 o.p0 (owners 0) (omega arith) j
  location_seen (suc zero) j below =
      stays4 1 j (omega arith) ∙ stays3 1 j (omega arith)
      ∙ put_column with1 i 1 o.p1 (owners1 1) (omega arith) j
      ∙ lent_by _ _ o.p1 j _ _ (ap (owner_by i) (same1 1 i (omega arith))) (same1 1 j (omega arith))
  location_seen (suc (suc zero)) j below =
      stays4 2 j (omega arith)
      ∙ put_column with2 i 2 o.p2 (owners2 2) (omega arith) j
      ∙ lent_by _ _ o.p2 j _ _ (ap (owner_by i) (same2 2 i (omega arith) (omega arith))) (same2 2 j (omega arith) (omega arith))
  location_seen (suc (suc (suc zero))) j below =
      column4 j
      ∙ lent_by _ _ o.p3 j _ _ (ap (owner_by i) (same3 3 i (omega arith) (omega arith) (omega arith))) (same3 3 j (omega arith) (omega arith) (omega arith))
  location_seen (suc (suc (suc (suc k)))) j below = absurd (omega (arith, below))

  pub count_seen : length (with_pieces_of sharing i o) ≡ length sharing
  unfolding with_pieces_of
  count_seen = simp length-set

-- the first n of the pieces are put
abbrev pub with_first : List Locations → ℕ → Pieces → ℕ → List Locations
with_first sharing i o zero = sharing
with_first sharing i o (suc n) = put_piece (with_first sharing i o n) i n (piece_at o n)

module _ (sharing : List Locations) (i : ℕ) (owners : HasOwners sharing i) (o : Pieces) where
  pub owners_first : (n : ℕ) → n ≤ 4 → HasOwners (with_first sharing i o n) i
  owners_first zero most = owners
  owners_first (suc n) most = λ l.
      let before = owners_first n (omega (arith, most)) in
      owner_after (with_first sharing i o n) i n (piece_at o n) (before n) (omega (arith, most)) l (before l)

  pub seen_first : (n : ℕ) → n ≤ 4 → (l : ℕ) → n ≤ l → piece_seen (with_first sharing i o n) i l ≡ piece_seen sharing i l
  seen_first zero most l behind = refl
  seen_first (suc n) most l behind =
      seen_beside (with_first sharing i o n) i n (piece_at o n) (owners_first n (omega (arith, most)) n) (omega (arith, most)) l (omega (arith, behind))
      ∙ seen_first n (omega (arith, most)) l (omega (arith, behind))

-- what instance i sees then, and each other one
module _ (sharing : List Locations) (i : ℕ) (owners : HasOwners sharing i) (o : Pieces) (k : ℕ) (below : k < 4) where
  pub owner_lent : (j : ℕ) → owner_of sharing j k ≡ owner_of sharing i k → owner_of (with_pieces_of sharing i o) j k ≡ owner_of sharing i k
  owner_lent j owner =
      let h = owner_of sharing i k in
      elim (eqb_tells j h) [
        | inl e ↦ ap (owner_by j) (location_seen sharing i owners o k j below ∙ lent_at h _ j _ e.1) ∙ e.1
        | inr e ↦ ap (owner_by j) (location_seen sharing i owners o k j below ∙ lent_apart h _ j _ e.1) ∙ owner
      ]

  -- whoever has the owner of i sees the new piece
  pub seen_shared : (j : ℕ) → owner_of sharing j k ≡ owner_of sharing i k → piece_seen (with_pieces_of sharing i o) j k ≡ piece_at o k
  seen_shared j owner =
      let h = owner_of sharing i k in
      ap (λ (x : ℕ). piece_here (location_at (locations_at (with_pieces_of sharing i o) x) k)) (owner_lent j owner)
      ∙ ap piece_here (location_seen sharing i owners o k h below ∙ lent_at h _ h _ refl)

  -- and whoever has another sees what it saw
  pub seen_apart : (j : ℕ) → owner_of sharing j k ≢ owner_of sharing i k → piece_seen (with_pieces_of sharing i o) j k ≡ piece_seen sharing j k
  seen_apart j other =
      let h = owner_of sharing i k in
      let apart : j ≢ h = λ e. other (subst (λ (x : ℕ). owner_by x (location_at (locations_at sharing x) k) ≡ h) (sym e) (ap (owner_by h) (owners k).settled.1)) in
      let owner : owner_of (with_pieces_of sharing i o) j k ≡ owner_of sharing j k = ap (owner_by j) (location_seen sharing i owners o k j below ∙ lent_apart h _ j _ apart) in
      ap (λ (x : ℕ). piece_here (location_at (locations_at (with_pieces_of sharing i o) x) k)) owner
      ∙ ap piece_here (location_seen sharing i owners o k (owner_of sharing j k) below ∙ lent_apart h _ (owner_of sharing j k) _ other)

pub lent_here : (sharing : List Locations) (i : ℕ) → HasOwners sharing i → (o : Pieces) → shared_at (with_pieces_of sharing i o) i ≡ o
lent_here sharing i owners o =
    four_pieces (shared_at (with_pieces_of sharing i o) i) o
    (seen_shared sharing i owners o 0 (omega arith) i refl) (seen_shared sharing i owners o 1 (omega arith) i refl)
    (seen_shared sharing i owners o 2 (omega arith) i refl) (seen_shared sharing i owners o 3 (omega arith) i refl)
