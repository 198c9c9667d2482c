-- The owner of a record is the least of those that hold it, and all that are alike hold it together: what keeps both.
use Rattle.std.proofs.Common.{◌≡◌, ◌≢◌, ℕ, ℤ, zero, suc, ◌+◌, ◌<◌, ◌≤◌, inl, inr, List, [], ◌∷◌, length, Option, Some, None, set, get_or-set_same, get_or-set_other, refl, sym, ◌∙◌, ap, subst, arith}
use Rattle.std.proofs.lemmas.Bool.Decides.{eqb_tells}
use Rattle.std.proofs.lemmas.Option.{none-some, same_Some}
use Rattle.arrayvec.specs.ArrayVec.{ArrayVec}
use Rattle.mem_rec.specs.declared.MemRec.{MemRec}
use Rattle.ialg.specs.Records.{unplaced}
use Rattle.host_table.specs.declared.member.Member.{Member}
use Rattle.host_shared.specs.declared.locations.Location.{Location}
use Rattle.host_shared.specs.declared.locations.Location.TheVariants.{Here, At}
use Rattle.host_shared.specs.declared.locations.Locations.{Locations}
use Rattle.host_shared.specs.Locations.{location_at, locations_at, owner_by, owner_of}
use Rattle.host_shared.specs.Owners.{AllHaveOwners, IsSameLocation, SameLocations}
use Rattle.host_shared.specs.Sharing.{is_at, sharer_from, next_sharer, location_without, AreLeast}
use Rattle.host_table.specs.Table.{slot_at, instance_of}
use Rattle.host_table.specs.Frames.{SameSlot, IsSameMember}
use Rattle.host_map.specs.Sharers.{asked}
use Rattle.host_table.specs.Sharers.{asked_by, AreTogether}
use Rattle.host_table.proofs.Held.{SameSharer, IsSameSharer, sharer_of_member, alike_stays, with_before}
use Rattle.host_shared.proofs.Handing.{with_told, told_or_not, next_of, without_gone, stays_here, stays_with, goes, next_here, next_there}

-- each piece stands where it stood
pub owner_same : (i : ℕ) (s t : Location) → IsSameLocation s t → owner_by i t ≡ owner_by i s
owner_same i (Here p) (Here q) same = refl
owner_same i (Here p) (At h) same = absurd same
owner_same i (At h) t same = ap (owner_by i) same

pub owner_stays_same : (sharing sharing' : List Locations) → SameLocations sharing sharing' → (i k : ℕ) → owner_of sharing' i k ≡ owner_of sharing i k
owner_stays_same sharing sharing' stands i k = owner_same i (location_at (locations_at sharing i) k) (location_at (locations_at sharing' i) k) (stands i k)

pub least_stays : (sharing sharing' : List Locations) → SameLocations sharing sharing' → AreLeast sharing → AreLeast sharing'
least_stays sharing sharing' stands least i k owner is = least i k owner (with_before (location_at (locations_at sharing i) k) (location_at (locations_at sharing' i) k) owner (stands i k) is)

-- the same instances for whoever holds records with them
pub sharer_of_slot : {M : Type 0} (a b : Option (Member M)) → SameSlot a b → IsSameSharer a b
sharer_of_slot None b same = same
sharer_of_slot (Some m) None same = absurd same
sharer_of_slot (Some m) (Some n) same = record { kind = same.1.kind; params = same.1.params; table = ap unplaced same.1.table }

sharer_before : {M : Type 0} (a b : Option (Member M)) (n : Member M) → IsSameSharer a b → b ≡ Some n → (m : Member M) × (a ≡ Some m) × SameSharer n m
sharer_before {M = M} None b n same is = absurd (none-some n (sym same ∙ is))
sharer_before {M = M} (Some m) None n same is = absurd same
sharer_before {M = M} (Some m) (Some x) n same is =
    (m, refl, subst (λ (y : Member M). SameSharer y m) (same_Some x n is) (record { kind = sym same.kind; params = sym same.params; table = sym same.table }))

pub together_stays : {M : Type 0} (instances instances' : List (Option (Member M))) (sharing sharing' : List Locations) → ((j : ℕ) → IsSameSharer (slot_at instances j) (slot_at instances' j)) → SameLocations sharing sharing'
    → AreTogether instances sharing → AreTogether instances' sharing'
together_stays instances instances' sharing sharing' same stands together i j k m n at_i at_j alike =
    let first = sharer_before (slot_at instances i) (slot_at instances' i) m (same i) at_i in
    let second = sharer_before (slot_at instances j) (slot_at instances' j) n (same j) at_j in
    owner_stays_same sharing sharing' stands i k
    ∙ together i j k first.0 second.0 first.1 second.1 (alike_stays k m n first.0 second.0 first.2 second.2 alike)
    ∙ sym (owner_stays_same sharing sharing' stands j k)

pub together_same : {M : Type 0} (instances instances' : List (Option (Member M))) (sharing sharing' : List Locations) → ((j : ℕ) → SameSlot (slot_at instances j) (slot_at instances' j)) → SameLocations sharing sharing'
    → AreTogether instances sharing → AreTogether instances' sharing'
together_same instances instances' sharing sharing' same stands = together_stays instances instances' sharing sharing' (λ j. sharer_of_slot (slot_at instances j) (slot_at instances' j) (same j)) stands

pub together_members : {M : Type 0} (instances instances' : List (Option (Member M))) (sharing sharing' : List Locations) → ((j : ℕ) → IsSameMember (slot_at instances j) (slot_at instances' j)) → SameLocations sharing sharing'
    → AreTogether instances sharing → AreTogether instances' sharing'
together_members instances instances' sharing sharing' same stands = together_stays instances instances' sharing sharing' (λ j. sharer_of_member (slot_at instances j) (slot_at instances' j) (same j)) stands

-- an instance was asked for as before
pub asked_same : {M : Type 0} (a b : Option (Member M)) → SameSlot a b → asked_by b ≡ asked_by a
asked_same {M = M} None b same = ap asked_by same
asked_same {M = M} (Some m) None same = absurd same
asked_same {M = M} (Some m) (Some n) same =
    ap (λ (x : M). Some (asked x (instance_of n.inst).params.items (instance_of n.inst).table)) same.1.kind
    ∙ ap (λ (x : ArrayVec ℤ). Some (asked (instance_of m.inst).kind x.items (instance_of n.inst).table)) same.1.params
    ∙ ap (λ (x : List MemRec). Some (asked (instance_of m.inst).kind (instance_of m.inst).params.items x)) same.1.table

-- a stand with its owner elsewhere
pub with_owner : (j i : ℕ) (s : Location) → j ≢ i → owner_by j s ≡ i → s ≡ At i
with_owner j i (Here p) apart owner = absurd (apart owner)
with_owner j i (At g) apart owner = ap At owner

-- the next sharer is the least of those that are left
least_from : (n : ℕ) (sharing : List Locations) (i k h j : ℕ) → sharer_from n sharing i k ≡ Some h → location_at (locations_at sharing j) k ≡ At i → h ≤ n + j
least_from n [] i k h j next is = absurd (none-some h next)
least_from n (s ∷ sharing) i k h zero next is =
    let same : n ≡ h = same_Some n h (rw (with_told i (location_at s k) is) at next) in
    omega (arith, same)
least_from n (s ∷ sharing) i k h (suc j) next is =
    elim (told_or_not (is_at i (location_at s k))) [
      | inl e ↦
          let same : n ≡ h = same_Some n h (rw e at next) in
          omega (arith, same)
      | inr e ↦
          let later = least_from (suc n) sharing i k h j (rw e at next) is in
          omega (arith, later)
    ]

pub next_least : (sharing : List Locations) (i k h j : ℕ) → next_sharer sharing i k ≡ Some h → location_at (locations_at sharing j) k ≡ At i → h ≤ j
next_least sharing i k h j next is = omega (arith, least_from 0 sharing i k h j next is)

-- instance i goes, and what stands with it is handed on
module _ (sharing sharing' : List Locations) (i : ℕ) (owners : AllHaveOwners sharing) (handed : (j k : ℕ) → location_at (locations_at sharing' j) k ≡ location_without sharing i k j) where
  least_by : (j k h : ℕ) (s : Location) → AreLeast sharing → j ≢ i → location_at (locations_at sharing j) k ≡ s → location_at (locations_at sharing' j) k ≡ At h → h < j
  least_by j k h (Here p) least apart was is = let both : Here p ≡ At h = sym (stays_here sharing sharing' i owners handed j k p apart was) ∙ is in cc
  least_by j k h (At g) least apart was is =
      elim (eqb_tells g i) [
        | inr e ↦
            let same : g ≡ h = (let both : At g ≡ At h = sym (stays_with sharing sharing' i owners handed j k g apart e.1 was) ∙ is in cc) in
            subst (λ (x : ℕ). x < j) same (least j k g was)
        | inl e ↦
            let with_i : location_at (locations_at sharing j) k ≡ At i = was ∙ ap At e.1 in
            let next = next_of sharing i k j with_i in
            let least_next = next_least sharing i k next.0 j next.1 with_i in
            elim (eqb_tells j next.0) [
              | inl f ↦
                  let here = owners j k i with_i in
                  let both : Here (Some here.0) ≡ At h =
                  sym (goes sharing sharing' i owners handed j k next.0 apart with_i next.1 ∙ next_here next.0 (location_at (locations_at sharing i) k) j f.1 ∙ here.1) ∙ is in
                  cc
              | inr f ↦
                  let same : next.0 ≡ h =
                  (let both : At next.0 ≡ At h = sym (goes sharing sharing' i owners handed j k next.0 apart with_i next.1 ∙ next_there next.0 (location_at (locations_at sharing i) k) j f.1) ∙ is in cc) in
                  let apart_next = f.1 in
                  omega (arith, same, least_next, apart_next)
            ]
      ]

  pub least_handed : AreLeast sharing → AreLeast sharing'
  least_handed least j k h is =
      elim (eqb_tells j i) [
        | inl e ↦ let both : Here None ≡ At h = sym (handed j k ∙ without_gone sharing i k j e.1) ∙ is in cc
        | inr e ↦ least_by j k h (location_at (locations_at sharing j) k) least e.1 refl is
      ]

  -- the owners afterwards
  owner_kept : (j k : ℕ) (s : Location) → j ≢ i → location_at (locations_at sharing j) k ≡ s → owner_by j s ≢ i → owner_of sharing' j k ≡ owner_of sharing j k
  owner_kept j k (Here p) apart is other = ap (owner_by j) (stays_here sharing sharing' i owners handed j k p apart is ∙ sym is)
  owner_kept j k (At g) apart is other = ap (owner_by j) (stays_with sharing sharing' i owners handed j k g apart other is ∙ sym is)

  owner_next : (j k h : ℕ) → j ≢ i → location_at (locations_at sharing j) k ≡ At i → next_sharer sharing i k ≡ Some h → owner_of sharing' j k ≡ h
  owner_next j k h apart is next =
      let here = owners j k i is in
      elim (eqb_tells j h) [
        | inl e ↦ ap (owner_by j) (goes sharing sharing' i owners handed j k h apart is next ∙ next_here h (location_at (locations_at sharing i) k) j e.1 ∙ here.1) ∙ e.1
        | inr e ↦ ap (owner_by j) (goes sharing sharing' i owners handed j k h apart is next ∙ next_there h (location_at (locations_at sharing i) k) j e.1)
      ]

  owners_together : (a b k : ℕ) → a ≢ i → b ≢ i → owner_of sharing a k ≡ owner_of sharing b k → owner_of sharing' a k ≡ owner_of sharing' b k
  owners_together a b k first second same =
      elim (eqb_tells (owner_of sharing a k) i) [
        | inr e ↦
            owner_kept a k (location_at (locations_at sharing a) k) first refl e.1 ∙ same
            ∙ sym (owner_kept b k (location_at (locations_at sharing b) k) second refl (λ f. e.1 (same ∙ f)))
        | inl e ↦
            let with_a = with_owner a i (location_at (locations_at sharing a) k) first e.1 in
            let with_b = with_owner b i (location_at (locations_at sharing b) k) second (sym same ∙ e.1) in
            let next = next_of sharing i k a with_a in
            owner_next a k next.0 first with_a next.1 ∙ sym (owner_next b k next.0 second with_b next.1)
      ]

  pub together_handed : {M : Type 0} (instances : List (Option (Member M))) → i < length instances → AreTogether instances sharing → AreTogether (set instances i None) sharing'
  together_handed instances inside together a b k m n at_a at_b alike =
      let gone : slot_at (set instances i None) i ≡ None = get_or-set_same instances i None None inside in
      let first : a ≢ i = λ e. none-some m (sym gone ∙ ap (slot_at (set instances i None)) (sym e) ∙ at_a) in
      let second : b ≢ i = λ e. none-some n (sym gone ∙ ap (slot_at (set instances i None)) (sym e) ∙ at_b) in
      owners_together a b k first second
      (together a b k m n (sym (get_or-set_other instances i a None None first) ∙ at_a) (sym (get_or-set_other instances i b None None second) ∙ at_b) alike)
