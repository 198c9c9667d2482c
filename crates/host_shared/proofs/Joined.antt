-- One record of the locations, once a new instance has joined its sharers.
use Rattle.std.proofs.Common.{◌≡◌, ◌≢◌, ℕ, ◌<◌, ◌≤◌, inl, inr, List, Option, Some, None, nat_eq, nat_lt, if◌then◌else◌, refl, sym, ◌∙◌, ap, subst, arith}
use Rattle.std.proofs.lemmas.Bool.{cases_Bool, ltb-true, ltb-false}
use Rattle.std.proofs.lemmas.Bool.Decides.{eqb_tells}
use Rattle.space_raw.specs.Span.{Span}
use Rattle.record_loans.specs.declared.pieces.Pieces.{Pieces}
use Rattle.record_loans.specs.Pieces.{piece_at}
use Rattle.host_shared.specs.declared.joining.Sharers.{Sharers}
use Rattle.host_shared.specs.declared.locations.Location.{Location}
use Rattle.host_shared.specs.declared.locations.Location.TheVariants.{Here, At}
use Rattle.host_shared.specs.declared.locations.Locations.{Locations}
use Rattle.host_shared.specs.Locations.{location_at, piece_here, no_locations, locations_at, owner_by, owner_of, piece_seen, shared_at}
use Rattle.host_shared.specs.Owners.{IsPieceHere, AllHaveOwners}
use Rattle.host_shared.specs.Joining.{sharer_at, location_over, location_beside, location_joined, piece_joined, pieces_joined, CanJoin}
use Rattle.host_shared.specs.Sharing.{AreLeast}
use Rattle.host_shared.proofs.Stands.{four_pieces, seen_here, seen_with}
use Rattle.host_shared.proofs.Lent.{no_location}

pub here_of : (j i : ℕ) (x y : Location) → j ≡ i → (if nat_eq j i then x else y) ≡ x
here_of j i x y same =
    elim (eqb_tells j i) [
      | inl e ↦ rw e.0 refl
      | inr e ↦ absurd (e.1 same)
    ]

pub there_of : (j i : ℕ) (x y : Location) → j ≢ i → (if nat_eq j i then x else y) ≡ y
there_of j i x y apart =
    elim (eqb_tells j i) [
      | inl e ↦ absurd (apart e.1)
      | inr e ↦ rw e.0 refl
    ]

-- an instance sees what it saw, where its stand is the same and so is that of its owner
pub seen_kept : (sharing sharing' : List Locations) (j k : ℕ) (s : Location) → location_at (locations_at sharing j) k ≡ s → location_at (locations_at sharing' j) k ≡ s
    → ((h : ℕ) → s ≡ At h → location_at (locations_at sharing' h) k ≡ location_at (locations_at sharing h) k) → piece_seen sharing' j k ≡ piece_seen sharing j k
seen_kept sharing sharing' j k (Here p) was is kept = seen_here sharing' j k p is ∙ sym (seen_here sharing j k p was)
seen_kept sharing sharing' j k (At h) was is kept = seen_with sharing' j k h is ∙ ap piece_here (kept h refl) ∙ sym (seen_with sharing j k h was)

-- a piece stands with its own instance
pub owner_own_piece : (sharing : List Locations) (h k : ℕ) → IsPieceHere (location_at (locations_at sharing h) k) → owner_of sharing h k ≡ h
owner_own_piece sharing h k here = ap (owner_by h) here.1

pub here_not_with : (s : Location) (h : ℕ) → IsPieceHere s → s ≢ At h
here_not_with s h here is = let both : Here (Some here.0) ≡ At h = sym here.1 ∙ is in cc

-- what a record of all instances is like afterwards
pub record Joins (sharing sharing' : List Locations) (i k : ℕ) (o : Option Span) : Type 0 where
  pub seen : (j : ℕ) → j ≢ i → piece_seen sharing' j k ≡ piece_seen sharing j k
  pub own : piece_seen sharing' i k ≡ o
  pub owners : (j h : ℕ) → location_at (locations_at sharing' j) k ≡ At h → IsPieceHere (location_at (locations_at sharing' h) k)
  pub least : ((j h : ℕ) → location_at (locations_at sharing j) k ≡ At h → h < j) → (j h : ℕ) → location_at (locations_at sharing' j) k ≡ At h → h < j

-- what stands with an owner of a greater number than i has a greater one itself
moved_lower : (i t j : ℕ) (s : Location) → i < t → ((h : ℕ) → s ≡ At h → h < j) → owner_by j s ≡ t → i < j
moved_lower i t j (Here p) lower least owner = let same : j ≡ t = owner in omega (arith, lower, same)
moved_lower i t j (At h) lower least owner =
    let same : h ≡ t = owner in
    let less : h < j = least h refl in
    omega (arith, lower, same, less)

module _ (sharing : List Locations) (i k : ℕ) (owners : AllHaveOwners sharing) (bare : location_at (locations_at sharing i) k ≡ Here None) where
  -- nothing stands with the new instance yet
  pub piece_elsewhere : (h : ℕ) → IsPieceHere (location_at (locations_at sharing h) k) → h ≢ i
  piece_elsewhere h here same =
      let both : Here (Some here.0) ≡ Here None = sym here.1 ∙ ap (λ (x : ℕ). location_at (locations_at sharing x) k) same ∙ bare in
      cc

  pub none_with : (j h : ℕ) → location_at (locations_at sharing j) k ≡ At h → h ≢ i
  none_with j h is = piece_elsewhere h (owners j k h is)

  -- all other stands are as they were
  module _ (sharing' : List Locations) (s : Location) (new : (j : ℕ) → location_at (locations_at sharing' j) k ≡ location_beside sharing i k s j) where
    pub beside_here : location_at (locations_at sharing' i) k ≡ s
    beside_here = new i ∙ here_of i i s (location_at (locations_at sharing i) k) refl

    pub beside_there : (j : ℕ) → j ≢ i → location_at (locations_at sharing' j) k ≡ location_at (locations_at sharing j) k
    beside_there j apart = new j ∙ there_of j i s (location_at (locations_at sharing j) k) apart

    beside_joins : (o : Option Span) → piece_seen sharing' i k ≡ o → ((h : ℕ) → s ≡ At h → IsPieceHere (location_at (locations_at sharing h) k)) → ((h : ℕ) → s ≡ At h → h < i) → Joins sharing sharing' i k o
    beside_joins o own fine lower = record {
      seen = λ j apart. seen_kept sharing sharing' j k (location_at (locations_at sharing j) k) refl (beside_there j apart) (λ h is. beside_there h (none_with j h is));
      own = own;
      owners = λ j h is.
          elim (eqb_tells j i) [
            | inl e ↦
                let there = fine h (sym beside_here ∙ ap (λ (x : ℕ). location_at (locations_at sharing' x) k) (sym e.1) ∙ is) in
                subst IsPieceHere (sym (beside_there h (piece_elsewhere h there))) there
            | inr e ↦
                let there = owners j k h (sym (beside_there j e.1) ∙ is) in
                subst IsPieceHere (sym (beside_there h (piece_elsewhere h there))) there
          ];
      least = λ least j h is.
          elim (eqb_tells j i) [
            | inl e ↦ subst (λ (x : ℕ). h < x) (sym e.1) (lower h (sym beside_here ∙ ap (λ (x : ℕ). location_at (locations_at sharing' x) k) (sym e.1) ∙ is))
            | inr e ↦ least j h (sym (beside_there j e.1) ∙ is)
          ];
    }

  -- the new instance takes over what stood with its sharer t
  module _ (sharing' : List Locations) (t : ℕ) (here : IsPieceHere (location_at (locations_at sharing t) k)) (new : (j : ℕ) → location_at (locations_at sharing' j) k ≡ location_over sharing i k t j) where
    pub over_here : location_at (locations_at sharing' i) k ≡ location_at (locations_at sharing t) k
    over_here = new i ∙ here_of i i (location_at (locations_at sharing t) k) _ refl

    pub over_owner : (j : ℕ) → j ≢ i → owner_of sharing j k ≡ t → location_at (locations_at sharing' j) k ≡ At i
    over_owner j apart owner = new j ∙ there_of j i (location_at (locations_at sharing t) k) _ apart ∙ here_of (owner_of sharing j k) t (At i) (location_at (locations_at sharing j) k) owner

    pub over_there : (j : ℕ) → j ≢ i → owner_of sharing j k ≢ t → location_at (locations_at sharing' j) k ≡ location_at (locations_at sharing j) k
    over_there j apart other = new j ∙ there_of j i (location_at (locations_at sharing t) k) _ apart ∙ there_of (owner_of sharing j k) t (At i) (location_at (locations_at sharing j) k) other

    -- the owner of a record that stays is another than the sharer, and stays too
    pub owner_there : (j h : ℕ) → owner_of sharing j k ≢ t → location_at (locations_at sharing j) k ≡ At h → location_at (locations_at sharing' h) k ≡ location_at (locations_at sharing h) k
    owner_there j h other is =
        let there = owners j k h is in
        over_there h (piece_elsewhere h there) (λ e. other (ap (owner_by j) is ∙ sym (owner_own_piece sharing h k there) ∙ e))

    over_joins : i < t → Joins sharing sharing' i k (piece_seen sharing t k)
    over_joins lower = record {
      seen = λ j apart.
          elim (eqb_tells (owner_of sharing j k) t) [
            | inl e ↦ seen_with sharing' j k i (over_owner j apart e.1) ∙ ap piece_here over_here ∙ sym (ap (λ (x : ℕ). piece_here (location_at (locations_at sharing x) k)) e.1)
            | inr e ↦ seen_kept sharing sharing' j k (location_at (locations_at sharing j) k) refl (over_there j apart e.1) (λ h is. owner_there j h e.1 is)
          ];
      own = seen_here sharing' i k (Some here.0) (over_here ∙ here.1) ∙ sym (seen_here sharing t k (Some here.0) here.1);
      owners = λ j h is.
          elim (eqb_tells j i) [
            | inl e ↦ absurd (here_not_with (location_at (locations_at sharing t) k) h here (sym over_here ∙ ap (λ (x : ℕ). location_at (locations_at sharing' x) k) (sym e.1) ∙ is))
            | inr e ↦
                elim (eqb_tells (owner_of sharing j k) t) [
                  | inl f ↦
                      let same : i ≡ h = (let both : At i ≡ At h = sym (over_owner j e.1 f.1) ∙ is in cc) in
                      subst (λ (x : ℕ). IsPieceHere (location_at (locations_at sharing' x) k)) same (subst IsPieceHere (sym over_here) here)
                  | inr f ↦
                      let was : location_at (locations_at sharing j) k ≡ At h = sym (over_there j e.1 f.1) ∙ is in
                      subst IsPieceHere (sym (owner_there j h f.1 was)) (owners j k h was)
                ]
          ];
      least = λ least j h is.
          elim (eqb_tells j i) [
            | inl e ↦ absurd (here_not_with (location_at (locations_at sharing t) k) h here (sym over_here ∙ ap (λ (x : ℕ). location_at (locations_at sharing' x) k) (sym e.1) ∙ is))
            | inr e ↦
                elim (eqb_tells (owner_of sharing j k) t) [
                  | inl f ↦
                      let same : i ≡ h = (let both : At i ≡ At h = sym (over_owner j e.1 f.1) ∙ is in cc) in
                      subst (λ (x : ℕ). x < j) same (moved_lower i t j (location_at (locations_at sharing j) k) lower (least j) f.1)
                  | inr f ↦ least j h (sym (over_there j e.1 f.1) ∙ is)
                ]
          ];
    }

  -- whatever the sharer is
  pub column_joins : (sharing' : List Locations) (t : Option ℕ) (p : Option Span) → CanJoin sharing k t p → ((j : ℕ) → location_at (locations_at sharing' j) k ≡ location_joined sharing i k t p j) → Joins sharing sharing' i k (piece_joined sharing k t p)
  column_joins sharing' None p can new =
      beside_joins sharing' (Here p) new p (seen_here sharing' i k p (beside_here sharing' (Here p) new))
      (λ h is. let both : Here p ≡ At h = is in cc) (λ h is. let both : Here p ≡ At h = is in cc)
  column_joins sharing' (Some t) p can new =
      elim (cases_Bool (nat_lt t i)) [
        | inl e ↦
            let lower : t < i = ltb-true t i e in
            let now : (j : ℕ) → location_at (locations_at sharing' j) k ≡ location_beside sharing i k (At t) j = λ j. rw e at (new j) in
            beside_joins sharing' (At t) now (piece_seen sharing t k)
            (seen_with sharing' i k t (beside_here sharing' (At t) now) ∙ ap piece_here (beside_there sharing' (At t) now t (piece_elsewhere t can.here) ∙ can.here.1) ∙ sym (seen_here sharing t k (Some can.here.0) can.here.1))
            (λ h is. let same : t ≡ h = (let both : At t ≡ At h = is in cc) in subst (λ (x : ℕ). IsPieceHere (location_at (locations_at sharing x) k)) same can.here)
            (λ h is. let same : t ≡ h = (let both : At t ≡ At h = is in cc) in omega (arith, same, lower))
        | inr e ↦
            let not_lower : i ≤ t = ltb-false t i e in
            let other = piece_elsewhere t can.here in
            over_joins sharing' t can.here (λ j. rw e at (new j)) (omega (arith, not_lower, other))
      ]

-- all records
module _ (sharing sharing' : List Locations) (i : ℕ) (sharers : Sharers) (placed : Pieces) (owners : AllHaveOwners sharing) (bare : locations_at sharing i ≡ no_locations)
    (can : (k : ℕ) → CanJoin sharing k (sharer_at sharers k) (piece_at placed k))
    (joined : (j k : ℕ) → location_at (locations_at sharing' j) k ≡ location_joined sharing i k (sharer_at sharers k) (piece_at placed k) j) where
  pub bare_at : (k : ℕ) → location_at (locations_at sharing i) k ≡ Here None
  bare_at k = ap (λ (s : Locations). location_at s k) bare ∙ no_location k

  joins_at : (k : ℕ) → Joins sharing sharing' i k (piece_joined sharing k (sharer_at sharers k) (piece_at placed k))
  joins_at k = column_joins sharing i k owners (bare_at k) sharing' (sharer_at sharers k) (piece_at placed k) (can k) (λ j. joined j k)

  pub pieces_all : shared_at sharing' i ≡ pieces_joined sharing sharers placed
  pieces_all = four_pieces (shared_at sharing' i) (pieces_joined sharing sharers placed) (joins_at 0).own (joins_at 1).own (joins_at 2).own (joins_at 3).own

  pub others_all : (j : ℕ) → j ≢ i → shared_at sharing' j ≡ shared_at sharing j
  others_all j apart = four_pieces (shared_at sharing' j) (shared_at sharing j) ((joins_at 0).seen j apart) ((joins_at 1).seen j apart) ((joins_at 2).seen j apart) ((joins_at 3).seen j apart)

  pub owners_all : AllHaveOwners sharing'
  owners_all j k h is = (joins_at k).owners j h is

  pub least_all : AreLeast sharing → AreLeast sharing'
  least_all least j k h is = (joins_at k).least (λ a b. least a k b) j h is
