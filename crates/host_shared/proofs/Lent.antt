-- What changes on the locations, where an instance's pieces were taken together and put back with other words.
use Rattle.std.proofs.Common.{◌≡◌, ℕ, zero, suc, ◌<◌, inl, inr, List, [], ◌∷◌, length, Option, Some, None, refl, sym, ◌∙◌, ap, subst, arith}
use Rattle.std.proofs.lemmas.Bool.Decides.{eqb_tells}
use Rattle.space_raw.specs.Span.{Span}
use Rattle.record_loans.specs.declared.pieces.Pieces.{Pieces}
use Rattle.record_loans.specs.Pieces.{piece_at, IsSamePiece, SamePieces, no_pieces}
use Rattle.record_loans.proofs.PieceLemmas.{reflexive, piece_same}
use Rattle.host_shared.specs.declared.locations.Location.{Location}
use Rattle.host_shared.specs.declared.locations.Location.TheVariants.{Here, At}
use Rattle.host_shared.specs.declared.locations.Locations.{Locations}
use Rattle.host_shared.specs.Locations.{location_at, piece_here, no_locations, locations_at, owner_by, owner_of, piece_seen, shared_at}
use Rattle.host_shared.specs.Owners.{with_pieces_of, HasOwner, HasOwners, AllHaveOwners, IsSameLocation, SameLocations}
use Rattle.host_shared.proofs.Owners.{lent_location, lent_by, location_seen, count_seen, owners_lent, owner_lent, seen_shared, seen_apart}

-- locations with the same stands are the same
pub four_locations : (a b : Locations) → ((k : ℕ) → location_at a k ≡ location_at b k) → a ≡ b
four_locations a b same =
    ap (λ (x : Location). let r : Locations = record { s0 = x; s1 = a.s1; s2 = a.s2; s3 = a.s3 } in r) (same 0)
    ∙ ap (λ (x : Location). let r : Locations = record { s0 = b.s0; s1 = x; s2 = a.s2; s3 = a.s3 } in r) (same 1)
    ∙ ap (λ (x : Location). let r : Locations = record { s0 = b.s0; s1 = b.s1; s2 = x; s3 = a.s3 } in r) (same 2)
    ∙ ap (λ (x : Location). let r : Locations = record { s0 = b.s0; s1 = b.s1; s2 = b.s2; s3 = x } in r) (same 3)

pub same_lists : (a b : List Locations) → length a ≡ length b → ((j k : ℕ) → location_at (locations_at a j) k ≡ location_at (locations_at b j) k) → a ≡ b
same_lists [] [] count same = refl
same_lists [] (t ∷ b) count same = absurd (omega (arith, count))
same_lists (s ∷ a) [] count same = absurd (omega (arith, count))
same_lists (s ∷ a) (t ∷ b) count same =
    let first : s ≡ t = four_locations s t (same 0) in
    let rest : a ≡ b = same_lists a b (omega (arith, count)) (λ j k. same (suc j) k) in
    ap (λ (x : Locations). x ∷ a) first ∙ ap (λ (xs : List Locations). t ∷ xs) rest

-- of records past the fourth none has a piece
pub each_location : (P : ℕ → Location → Location → Type 0) (a b : Locations) → ((k : ℕ) → P k (Here None) (Here None)) → ((k : ℕ) → k < 4 → P k (location_at a k) (location_at b k)) → (k : ℕ) → P k (location_at a k) (location_at b k)
each_location P a b past below zero = below 0 (omega arith)
each_location P a b past below (suc zero) = below 1 (omega arith)
each_location P a b past below (suc (suc zero)) = below 2 (omega arith)
each_location P a b past below (suc (suc (suc zero))) = below 3 (omega arith)
each_location P a b past below (suc (suc (suc (suc k)))) = past (suc (suc (suc (suc k))))

abbrev IsEqualAt : ℕ → Location → Location → Type 0
IsEqualAt k x y = x ≡ y

abbrev IsSameAt : ℕ → Location → Location → Type 0
IsSameAt k x y = IsSameLocation x y

again_location : (h h' : ℕ) (p q : Option Span) (j : ℕ) (s : Location) → h' ≡ h → lent_location h' q j (lent_location h p j s) ≡ lent_location h q j s
again_location h h' p q j s owner =
    lent_by h' h q j _ _ owner refl
    ∙ elim (eqb_tells j h) [
      | inl e ↦ rw e.0 refl
      | inr e ↦ rw e.0 refl
    ]

module _ (sharing : List Locations) (i : ℕ) (owners : HasOwners sharing i) where
  -- what was put last is seen
  pub lent_last : (o o' : Pieces) → with_pieces_of (with_pieces_of sharing i o) i o' ≡ with_pieces_of sharing i o'
  lent_last o o' =
      let mid = with_pieces_of sharing i o in
      let owners' = owners_lent sharing i owners o in
      same_lists (with_pieces_of mid i o') (with_pieces_of sharing i o') (count_seen mid i owners' o' ∙ count_seen sharing i owners o ∙ sym (count_seen sharing i owners o'))
      (λ j. each_location IsEqualAt (locations_at (with_pieces_of mid i o') j) (locations_at (with_pieces_of sharing i o') j) (λ k. refl)
      (λ k below. location_seen mid i owners' o' k j below
      ∙ lent_by _ _ (piece_at o' k) j _ _ refl (location_seen sharing i owners o k j below)
      ∙ again_location (owner_of sharing i k) (owner_of mid i k) (piece_at o k) (piece_at o' k) j (location_at (locations_at sharing j) k) (owner_lent sharing i owners o k below i refl)
      ∙ sym (location_seen sharing i owners o' k j below)))

  -- the pieces were taken together, and put back
  pub put_back : (sharing' sharing'' : List Locations) (o : Pieces) → sharing' ≡ with_pieces_of sharing i no_pieces → sharing'' ≡ with_pieces_of sharing' i o → sharing'' ≡ with_pieces_of sharing i o
  put_back sharing' sharing'' o taken put = put ∙ ap (λ (l : List Locations). with_pieces_of l i o) taken ∙ lent_last no_pieces o

pub no_location : (k : ℕ) → location_at no_locations k ≡ Here None
no_location zero = refl
no_location (suc zero) = refl
no_location (suc (suc zero)) = refl
no_location (suc (suc (suc zero))) = refl
no_location (suc (suc (suc (suc k)))) = refl

-- a locations with a piece is in the table
pub piece_inside : (sharing : List Locations) (h k : ℕ) (p : Span) → location_at (locations_at sharing h) k ≡ Here (Some p) → h < length sharing
piece_inside [] h k p is = let e : Here None ≡ Here (Some p) = sym (no_location k) ∙ is in cc
piece_inside (s ∷ sharing) zero k p is = omega arith
piece_inside (s ∷ sharing) (suc h) k p is = let less : h < length sharing = piece_inside sharing h k p is in omega arith

owner_by_location : (sharing : List Locations) (i k : ℕ) (s : Location) → AllHaveOwners sharing → i < length sharing → location_at (locations_at sharing i) k ≡ s → HasOwner sharing i k
owner_by_location sharing i k (Here p) all inside is =
    let owner : owner_of sharing i k ≡ i = ap (owner_by i) is in
    record { inside = rw owner inside; settled = (p, ap (λ (x : ℕ). location_at (locations_at sharing x) k) owner ∙ is) }
owner_by_location sharing i k (At h) all inside is =
    let owner : owner_of sharing i k ≡ h = ap (owner_by i) is in
    let there = all i k h is in
    record { inside = rw owner (piece_inside sharing h k there.0 there.1); settled = (Some there.0, ap (λ (x : ℕ). location_at (locations_at sharing x) k) owner ∙ there.1) }

-- where each record that stands with another instance has its piece there, each has an owner
pub owners_of_all : (sharing : List Locations) (i : ℕ) → AllHaveOwners sharing → i < length sharing → HasOwners sharing i
owners_of_all sharing i all inside k = owner_by_location sharing i k (location_at (locations_at sharing i) k) all inside refl

-- locations that stay
pub same_location : (s : Location) → IsSameLocation s s
same_location (Here p) = reflexive p
same_location (At owner) = refl

pub same_locations : (sharing : List Locations) → SameLocations sharing sharing
same_locations sharing i k = same_location (location_at (locations_at sharing i) k)

lent_same : (h : ℕ) (p q : Option Span) (j : ℕ) (s : Location) → (j ≡ h → s ≡ Here q) → IsSamePiece q p → IsSameLocation s (lent_location h p j s)
lent_same h p q j s owner same =
    elim (eqb_tells j h) [
      | inl e ↦ rw e.0 (subst (λ (x : Location). IsSameLocation x (Here p)) (sym (owner e.1)) same)
      | inr e ↦ rw e.0 (same_location s)
    ]

pub seen_at : (sharing : List Locations) (i k : ℕ) → k < 4 → piece_at (shared_at sharing i) k ≡ piece_seen sharing i k
seen_at sharing i zero below = refl
seen_at sharing i (suc zero) below = refl
seen_at sharing i (suc (suc zero)) below = refl
seen_at sharing i (suc (suc (suc zero))) below = refl
seen_at sharing i (suc (suc (suc (suc k)))) below = absurd (omega (arith, below))

module _ (sharing : List Locations) (i : ℕ) (owners : HasOwners sharing i) (o : Pieces) (same : SamePieces (shared_at sharing i) o) where
  same_at : (k : ℕ) → k < 4 → IsSamePiece (piece_seen sharing i k) (piece_at o k)
  same_at k below = subst (λ (x : Option Span). IsSamePiece x (piece_at o k)) (seen_at sharing i k below) (piece_same (shared_at sharing i) o k same)

  -- each piece stands where it stood
  pub stands_lent : SameLocations sharing (with_pieces_of sharing i o)
  stands_lent j =
      each_location IsSameAt (locations_at sharing j) (locations_at (with_pieces_of sharing i o) j) (λ k. refl)
      (λ k below.
      let h = owner_of sharing i k in
      let here : location_at (locations_at sharing h) k ≡ Here (piece_seen sharing i k) = (owners k).settled.1 ∙ ap Here (sym (ap piece_here (owners k).settled.1)) in
      subst (λ (x : Location). IsSameLocation (location_at (locations_at sharing j) k) x) (sym (location_seen sharing i owners o k j below))
      (lent_same h (piece_at o k) (piece_seen sharing i k) j (location_at (locations_at sharing j) k) (λ e. rw e here) (same_at k below)))

  seen_same : (k j : ℕ) → k < 4 → IsSamePiece (piece_seen sharing j k) (piece_seen (with_pieces_of sharing i o) j k)
  seen_same k j below =
      elim (eqb_tells (owner_of sharing j k) (owner_of sharing i k)) [
        | inl e ↦
            subst (λ (x : Option Span). IsSamePiece x (piece_seen (with_pieces_of sharing i o) j k)) (ap (λ (x : ℕ). piece_here (location_at (locations_at sharing x) k)) (sym e.1))
            (subst (λ (x : Option Span). IsSamePiece (piece_seen sharing i k) x) (sym (seen_shared sharing i owners o k below j e.1)) (same_at k below))
        | inr e ↦ subst (λ (x : Option Span). IsSamePiece (piece_seen sharing j k) x) (sym (seen_apart sharing i owners o k below j e.1)) (reflexive (piece_seen sharing j k))
      ]

  -- and each instance sees the same pieces
  pub pieces_lent : (j : ℕ) → SamePieces (shared_at sharing j) (shared_at (with_pieces_of sharing i o) j)
  pieces_lent j = record {
    p0 = seen_same 0 j (omega arith);
    p1 = seen_same 1 j (omega arith);
    p2 = seen_same 2 j (omega arith);
    p3 = seen_same 3 j (omega arith);
  }

-- one that sees no piece has none for record k
pub none_at : (sharing : List Locations) (i : ℕ) → shared_at sharing i ≡ no_pieces → (k : ℕ) → k < 4 → piece_seen sharing i k ≡ None
none_at sharing i none zero below = ap (λ (o : Pieces). o.p0) none
none_at sharing i none (suc zero) below = ap (λ (o : Pieces). o.p1) none
none_at sharing i none (suc (suc zero)) below = ap (λ (o : Pieces). o.p2) none
none_at sharing i none (suc (suc (suc zero))) below = ap (λ (o : Pieces). o.p3) none
none_at sharing i none (suc (suc (suc (suc k)))) below = absurd (omega (arith, below))
