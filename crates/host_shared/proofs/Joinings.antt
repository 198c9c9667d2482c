-- How the stands become those of a new instance that has joined, step by step.
use Rattle.std.proofs.Common.{◌≡◌, ◌≢◌, ℕ, zero, suc, ◌<◌, ◌≤◌, inl, inr, List, Option, Some, None, nat_eq, nat_lt, if◌then◌else◌, refl, sym, ◌∙◌, ap, arith}
use Rattle.std.proofs.lemmas.Bool.{cases_Bool, lt-ltb, le-ltb}
use Rattle.std.proofs.lemmas.Bool.Decides.{eqb_tells}
use Rattle.space_raw.specs.Span.{Span}
use Rattle.record_loans.specs.declared.pieces.Pieces.{Pieces}
use Rattle.record_loans.specs.Pieces.{piece_at}
use Rattle.host_shared.specs.declared.joining.Sharers.{Sharers}
use Rattle.host_shared.specs.declared.locations.Location.{Location}
use Rattle.host_shared.specs.declared.locations.Location.TheVariants.{Here, At}
use Rattle.host_shared.specs.declared.locations.Locations.{Locations}
use Rattle.host_shared.specs.Locations.{location_at, locations_at, owner_by, owner_of}
use Rattle.host_shared.specs.Owners.{IsPieceHere}
use Rattle.host_shared.specs.Sharing.{pointed}
use Rattle.host_shared.specs.Joining.{sharer_at, location_over, location_beside, location_joined, CanJoin}
use Rattle.host_shared.proofs.Joined.{here_of, there_of, owner_own_piece}

-- one that isn't the old owner itself is pointed to the new one exactly if it stood with the old one
pointed_owner : (t i j : ℕ) (s : Location) → j ≢ t → pointed t i s ≡ (if nat_eq (owner_by j s) t then At i else s)
pointed_owner t i j (Here p) apart = sym (there_of j t (At i) (Here p) apart)
pointed_owner t i j (At h) apart = refl

pointed_new : (t i : ℕ) → pointed t i (At i) ≡ At i
pointed_new t i =
    elim (eqb_tells i t) [
      | inl e ↦ rw e.0 refl
      | inr e ↦ rw e.0 refl
    ]

module _ (sharing sharing1 sharing2 sharing3 : List Locations) (i k t : ℕ) (here : IsPieceHere (location_at (locations_at sharing t) k))
    (first : location_at (locations_at sharing1 t) k ≡ At i) (rest : (j : ℕ) → j ≢ t → location_at (locations_at sharing1 j) k ≡ location_at (locations_at sharing j) k)
    (points : (j : ℕ) → location_at (locations_at sharing2 j) k ≡ pointed t i (location_at (locations_at sharing1 j) k)) where
  -- the new instance has nothing with it yet
  pub nothing_yet : i ≢ t → location_at (locations_at sharing i) k ≡ Here None → location_at (locations_at sharing2 i) k ≡ Here None
  nothing_yet apart bare = points i ∙ ap (pointed t i) (rest i apart ∙ bare)

  pub taken_over : (own : location_at (locations_at sharing3 i) k ≡ location_at (locations_at sharing t) k) (stays : (j : ℕ) → j ≢ i → location_at (locations_at sharing3 j) k ≡ location_at (locations_at sharing2 j) k)
      → (j : ℕ) → location_at (locations_at sharing3 j) k ≡ location_over sharing i k t j
  taken_over own stays j =
      elim (eqb_tells j i) [
        | inl e ↦ ap (λ (x : ℕ). location_at (locations_at sharing3 x) k) e.1 ∙ own ∙ sym (here_of j i (location_at (locations_at sharing t) k) _ e.1)
        | inr e ↦
            stays j e.1 ∙ points j
            ∙ elim (eqb_tells j t) [
              | inl f ↦
                  ap (λ (x : ℕ). pointed t i (location_at (locations_at sharing1 x) k)) f.1 ∙ ap (pointed t i) first ∙ pointed_new t i
                  ∙ sym (here_of (owner_of sharing j k) t (At i) (location_at (locations_at sharing j) k) (ap (λ (x : ℕ). owner_of sharing x k) f.1 ∙ owner_own_piece sharing t k here))
              | inr f ↦ ap (pointed t i) (rest j f.1) ∙ pointed_owner t i j (location_at (locations_at sharing j) k) f.1
            ]
            ∙ sym (there_of j i (location_at (locations_at sharing t) k) _ e.1)
      ]

-- the stand of the new instance was set, and the others are as they were
beside_by : (sharing sharing' : List Locations) (i k : ℕ) (s : Location) → location_at (locations_at sharing' i) k ≡ s → ((j : ℕ) → j ≢ i → location_at (locations_at sharing' j) k ≡ location_at (locations_at sharing j) k)
    → (j : ℕ) → location_at (locations_at sharing' j) k ≡ location_beside sharing i k s j
beside_by sharing sharing' i k s own stays j =
    elim (eqb_tells j i) [
      | inl e ↦ ap (λ (x : ℕ). location_at (locations_at sharing' x) k) e.1 ∙ own ∙ sym (here_of j i s (location_at (locations_at sharing j) k) e.1)
      | inr e ↦ stays j e.1 ∙ sym (there_of j i s (location_at (locations_at sharing j) k) e.1)
    ]

module _ (sharing sharing' : List Locations) (i k : ℕ) (p : Option Span) where
  pub joined_alone : location_at (locations_at sharing' i) k ≡ Here p → ((j : ℕ) → j ≢ i → location_at (locations_at sharing' j) k ≡ location_at (locations_at sharing j) k)
      → (j : ℕ) → location_at (locations_at sharing' j) k ≡ location_joined sharing i k None p j
  joined_alone own stays j = beside_by sharing sharing' i k (Here p) own stays j

  pub joined_lower : (t : ℕ) → t < i → location_at (locations_at sharing' i) k ≡ At t → ((j : ℕ) → j ≢ i → location_at (locations_at sharing' j) k ≡ location_at (locations_at sharing j) k)
      → (j : ℕ) → location_at (locations_at sharing' j) k ≡ location_joined sharing i k (Some t) p j
  joined_lower t lower own stays j = rw (lt-ltb t i lower) (beside_by sharing sharing' i k (At t) own stays j)

  pub joined_upper : (t : ℕ) → i ≤ t → ((j : ℕ) → location_at (locations_at sharing' j) k ≡ location_over sharing i k t j) → (j : ℕ) → location_at (locations_at sharing' j) k ≡ location_joined sharing i k (Some t) p j
  joined_upper t upper over j = rw (le-ltb t i upper) (over j)

-- only this record of each instance matters
over_column : (a b : List Locations) (i k t j : ℕ) → ((l : ℕ) → location_at (locations_at a l) k ≡ location_at (locations_at b l) k) → location_over a i k t j ≡ location_over b i k t j
over_column a b i k t j same = rw (same j, same t) refl

pub joined_column : (a b : List Locations) (i k : ℕ) (t : Option ℕ) (p : Option Span) (j : ℕ) → ((l : ℕ) → location_at (locations_at a l) k ≡ location_at (locations_at b l) k)
    → location_joined a i k t p j ≡ location_joined b i k t p j
joined_column a b i k None p j same = rw (same j) refl
joined_column a b i k (Some t) p j same =
    elim (cases_Bool (nat_lt t i)) [
      | inl e ↦ rw (e, same j) refl
      | inr e ↦ rw e (over_column a b i k t j same)
    ]

pub can_column : (a b : List Locations) (k : ℕ) (t : Option ℕ) (p : Option Span) → ((l : ℕ) → location_at (locations_at b l) k ≡ location_at (locations_at a l) k) → CanJoin a k t p → CanJoin b k t p
can_column a b k None p same can = tt
can_column a b k (Some t) p same can = record { here = rw (same t) can.here; none = can.none }

-- all four have joined
pub all_joined : (i : ℕ) (sharers : Sharers) (placed : Pieces) (a b : List Locations)
    → ((j k : ℕ) → k < 4 → location_at (locations_at b j) k ≡ location_joined a i k (sharer_at sharers k) (piece_at placed k) j)
    → (j k : ℕ) → location_at (locations_at b j) k ≡ location_joined a i k (sharer_at sharers k) (piece_at placed k) j
all_joined i sharers placed a b each j zero = each j 0 (omega arith)
all_joined i sharers placed a b each j (suc zero) = each j 1 (omega arith)
all_joined i sharers placed a b each j (suc (suc zero)) = each j 2 (omega arith)
all_joined i sharers placed a b each j (suc (suc (suc zero))) = each j 3 (omega arith)
all_joined i sharers placed a b each j (suc (suc (suc (suc k)))) =
    elim (eqb_tells j i) [
      | inl f ↦ rw f.0 refl
      | inr f ↦ rw f.0 refl
    ]
