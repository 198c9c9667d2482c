-- The sharers that are left hold their records together.
use Rattle.std.proofs.Common.{◌≡◌, ◌≢◌, ℕ, inl, inr, List, Option, Some, None, set, get_or-set_other, refl, sym, ◌∙◌, ap}
use Rattle.std.proofs.lemmas.Bool.Decides.{eqb_tells}
use Rattle.host_table.specs.declared.member.Member.{Member}
use Rattle.host_shared.specs.declared.locations.Location.{Location}
use Rattle.host_shared.specs.declared.locations.Location.TheVariants.{Here, At}
use Rattle.host_shared.specs.declared.locations.Locations.{Locations}
use Rattle.host_shared.specs.Locations.{location_at, no_locations, locations_at}
use Rattle.host_shared.specs.Owners.{IsPieceHere, AllHaveOwners}
use Rattle.host_shared.specs.Sharing.{location_without}
use Rattle.host_table.specs.Table.{slot_at, IsSharer, AreHeld, AreBare}
use Rattle.host_shared.proofs.Lent.{four_locations, no_location}
use Rattle.host_table.proofs.Held.{alike_both}
use Rattle.host_shared.proofs.Handing.{stays_here, stays_with, goes, next_apart, next_of, next_here, next_there, without_gone}

sharers_then : {M : Type 0} (k : ℕ) (a b owner : Option (Member M)) (s t : Location) → IsSharer k a owner s → IsSharer k b owner s → IsPieceHere t → IsSharer k a b t
sharers_then k None b owner s t first second here = first
sharers_then k (Some m) None owner s t first second here = absurd second
sharers_then k (Some m) (Some n) owner s t first second here = (alike_both k m n owner s first second, here)

-- what stands with instance i is handed on
module _ (sharing sharing' : List Locations) (i : ℕ) (owners : AllHaveOwners sharing) (handed : (j k : ℕ) → location_at (locations_at sharing' j) k ≡ location_without sharing i k j)
    {M : Type 0} (instances : List (Option (Member M))) (held : AreHeld instances sharing) where
  beside : (j : ℕ) → j ≢ i → slot_at (set instances i None) j ≡ slot_at instances j
  beside j apart = get_or-set_other instances i j None None apart

  held_by : (j k owner : ℕ) (s : Location) → j ≢ i → location_at (locations_at sharing j) k ≡ s → location_at (locations_at sharing' j) k ≡ At owner
      → IsSharer k (slot_at (set instances i None) j) (slot_at (set instances i None) owner) (location_at (locations_at sharing' owner) k)
  held_by j k owner (Here p) apart was is = let both : Here p ≡ At owner = sym (stays_here sharing sharing' i owners handed j k p apart was) ∙ is in cc
  held_by j k owner (At g) apart was is =
      let here = owners j k g was in
      elim (eqb_tells g i) [
        | inr e ↦
            let same : g ≡ owner = (let both : At g ≡ At owner = sym (stays_with sharing sharing' i owners handed j k g apart e.1 was) ∙ is in cc) in
            rw (← same, beside j apart, beside g e.1, stays_here sharing sharing' i owners handed g k (Some here.0) e.1 here.1 ∙ sym here.1) (held j k g was)
        | inl e ↦
            let with_i : location_at (locations_at sharing j) k ≡ At i = was ∙ ap At e.1 in
            let owner_is : location_at (locations_at sharing i) k ≡ Here (Some here.0) = ap (λ (x : ℕ). location_at (locations_at sharing x) k) (sym e.1) ∙ here.1 in
            let next = next_of sharing i k j with_i in
            let next_is_apart = next_apart sharing sharing' i owners handed next.0 k next.2 in
            let at_next : location_at (locations_at sharing' next.0) k ≡ Here (Some here.0) =
            goes sharing sharing' i owners handed next.0 k next.0 next_is_apart next.2 next.1 ∙ next_here next.0 _ next.0 refl ∙ owner_is in
            elim (eqb_tells j next.0) [
              | inl f ↦ let both : Here (Some here.0) ≡ At owner = sym at_next ∙ ap (λ (x : ℕ). location_at (locations_at sharing' x) k) (sym f.1) ∙ is in cc
              | inr f ↦
                  let same : next.0 ≡ owner = (let both : At next.0 ≡ At owner = sym (goes sharing sharing' i owners handed j k next.0 apart with_i next.1 ∙ next_there next.0 _ j f.1) ∙ is in cc) in
                  rw (← same, beside j apart, beside next.0 next_is_apart)
                  (sharers_then k (slot_at instances j) (slot_at instances next.0) (slot_at instances i) (location_at (locations_at sharing i) k) (location_at (locations_at sharing' next.0) k)
                  (held j k i with_i) (held next.0 k i next.2) (here.0, at_next))
            ]
      ]

  -- the sharers that are left hold their records together
  pub held_handed : AreHeld (set instances i None) sharing'
  held_handed j k owner is =
      elim (eqb_tells j i) [
        | inl e ↦ let both : Here None ≡ At owner = sym (handed j k ∙ without_gone sharing i k j e.1) ∙ is in cc
        | inr e ↦ held_by j k owner (location_at (locations_at sharing j) k) e.1 refl is
      ]

  pub bare_handed : locations_at sharing' i ≡ no_locations → AreBare instances sharing → AreBare (set instances i None) sharing'
  bare_handed gone bare j empty =
      elim (eqb_tells j i) [
        | inl e ↦ rw e.1 gone
        | inr e ↦
            let was : locations_at sharing j ≡ no_locations = bare j (sym (beside j e.1) ∙ empty) in
            four_locations (locations_at sharing' j) no_locations (λ k. stays_here sharing sharing' i owners handed j k None e.1 (ap (λ (s : Locations). location_at s k) was ∙ no_location k) ∙ sym (no_location k))
      ]
