-- What an instance leaves when it goes: the next sharer has the piece, and the others stand with that one.
use Rattle.std.proofs.Common.{◌≡◌, ◌≢◌, ◌⊎◌, ℕ, zero, suc, ◌+◌, ◌<◌, ◌≤◌, inl, inr, Bool, true, false, List, [], ◌∷◌, length, Option, Some, None, nat_eq, refl, sym, ◌∙◌, ap, subst, arith}
use Rattle.std.proofs.lemmas.Bool.Decides.{eqb_tells}
use Rattle.std.proofs.lemmas.Bool.{true≢false}
use Rattle.std.proofs.lemmas.List.{get_or_past}
use Rattle.std.proofs.lemmas.Option.{none-some, same_Some}
use Rattle.space_raw.specs.Span.{Span}
use Rattle.record_loans.specs.Pieces.{IsSamePiece, SamePieces}
use Rattle.host_shared.specs.declared.locations.Location.{Location}
use Rattle.host_shared.specs.declared.locations.Location.TheVariants.{Here, At}
use Rattle.host_shared.specs.declared.locations.Locations.{Locations}
use Rattle.host_shared.specs.Locations.{location_at, piece_here, no_locations, locations_at, piece_seen, shared_at}
use Rattle.host_shared.specs.Owners.{AllHaveOwners, HoldsForOthers, IsSameLocation, SameLocations}
use Rattle.host_shared.specs.Sharing.{is_at, sharer_from, next_sharer, piece_left, left_with, pointed, location_next, location_without}
use Rattle.host_shared.proofs.Stands.{four_pieces, seen_here, seen_with}
use Rattle.host_shared.proofs.Lent.{four_locations, no_location}

-- whether a record stands with an instance
equal_to : (i : ℕ) → nat_eq i i ≡ true
equal_to i =
    elim (eqb_tells i i) [
      | inl e ↦ e.0
      | inr e ↦ absurd (e.1 refl)
    ]

pub with_told : (i : ℕ) (s : Location) → s ≡ At i → is_at i s ≡ true
with_told i s is = rw is (equal_to i)

pub with_of : (i : ℕ) (s : Location) → is_at i s ≡ true → s ≡ At i
with_of i (Here p) told = absurd (true≢false (sym told))
with_of i (At h) told =
    elim (eqb_tells h i) [
      | inl e ↦ ap At e.1
      | inr e ↦ absurd (true≢false (sym told ∙ e.0))
    ]

pub with_not : (i : ℕ) (s : Location) → s ≢ At i → is_at i s ≡ false
with_not i (Here p) other = refl
with_not i (At h) other =
    elim (eqb_tells h i) [
      | inl e ↦ absurd (other (ap At e.1))
      | inr e ↦ e.0
    ]

pub told_or_not : (b : Bool) → (b ≡ true) ⊎ (b ≡ false)
told_or_not true = inl refl
told_or_not false = inr refl

-- where some instance's record stands with another, there is a least one
next_from : (n : ℕ) (sharing : List Locations) (i k j : ℕ) → location_at (locations_at sharing j) k ≡ At i → (d : ℕ) × (sharer_from n sharing i k ≡ Some (n + d)) × (location_at (locations_at sharing d) k ≡ At i)
next_from n [] i k j is = let e : Here None ≡ At i = sym (no_location k) ∙ is in cc
next_from n (s ∷ sharing) i k zero is = (0, rw (with_told i (location_at s k) is) (ap Some (omega arith)), is)
next_from n (s ∷ sharing) i k (suc j) is =
    elim (told_or_not (is_at i (location_at s k))) [
      | inl e ↦ (0, rw e (ap Some (omega arith)), with_of i (location_at s k) e)
      | inr e ↦
          let later = next_from (suc n) sharing i k j is in
          (suc later.0, rw e (later.1 ∙ ap Some (omega arith)), later.2)
    ]

pub next_of : (sharing : List Locations) (i k j : ℕ) → location_at (locations_at sharing j) k ≡ At i → (h : ℕ) × (next_sharer sharing i k ≡ Some h) × (location_at (locations_at sharing h) k ≡ At i)
next_of sharing i k j is =
    let next = next_from 0 sharing i k j is in
    (next.0, next.1 ∙ ap Some (omega arith), next.2)

-- past the records nobody is next
pub next_past : (n : ℕ) (sharing : List Locations) (i k : ℕ) → sharer_from n sharing i (suc (suc (suc (suc k)))) ≡ None
next_past n [] i k = refl
next_past n (s ∷ sharing) i k = next_past (suc n) sharing i k

-- only this record of each instance says who is next
pub next_same : (n i k : ℕ) (a b : List Locations) → length a ≡ length b → ((j : ℕ) → is_at i (location_at (locations_at a j) k) ≡ is_at i (location_at (locations_at b j) k)) → sharer_from n a i k ≡ sharer_from n b i k
next_same n i k [] [] count same = refl
next_same n i k [] (t ∷ b) count same = absurd (omega (arith, count))
next_same n i k (s ∷ a) [] count same = absurd (omega (arith, count))
next_same n i k (s ∷ a) (t ∷ b) count same =
    let first : is_at i (location_at s k) ≡ is_at i (location_at t k) = same 0 in
    let rest : sharer_from (suc n) a i k ≡ sharer_from (suc n) b i k = next_same (suc n) i k a b (omega (arith, count)) (λ j. same (suc j)) in
    elim (told_or_not (is_at i (location_at t k))) [
      | inl e ↦ rw (first, e) refl
      | inr e ↦ rw (first, e) rest
    ]

-- the stands afterwards
pub without_gone : (sharing : List Locations) (i k j : ℕ) → j ≡ i → location_without sharing i k j ≡ Here None
without_gone sharing i k j same =
    elim (eqb_tells j i) [
      | inl e ↦ rw e.0 refl
      | inr e ↦ absurd (e.1 same)
    ]

pub without_apart : (sharing : List Locations) (i k j : ℕ) → j ≢ i → location_at (locations_at sharing j) k ≢ At i → location_without sharing i k j ≡ location_at (locations_at sharing j) k
without_apart sharing i k j apart other =
    elim (eqb_tells j i) [
      | inl e ↦ absurd (apart e.1)
      | inr e ↦ rw (e.0, with_not i (location_at (locations_at sharing j) k) other) refl
    ]

pub without_held : (sharing : List Locations) (i k j h : ℕ) → j ≢ i → location_at (locations_at sharing j) k ≡ At i → next_sharer sharing i k ≡ Some h
    → location_without sharing i k j ≡ location_next (Some h) (location_at (locations_at sharing i) k) j
without_held sharing i k j h apart is next =
    elim (eqb_tells j i) [
      | inl e ↦ absurd (apart e.1)
      | inr e ↦ rw (e.0, with_told i (location_at (locations_at sharing j) k) is, next) refl
    ]

pub next_here : (h : ℕ) (s : Location) (j : ℕ) → j ≡ h → location_next (Some h) s j ≡ s
next_here h s j same =
    elim (eqb_tells j h) [
      | inl e ↦ rw e.0 refl
      | inr e ↦ absurd (e.1 same)
    ]

pub next_there : (h : ℕ) (s : Location) (j : ℕ) → j ≢ h → location_next (Some h) s j ≡ At h
next_there h s j apart =
    elim (eqb_tells j h) [
      | inl e ↦ absurd (apart e.1)
      | inr e ↦ rw e.0 refl
    ]

pub next_column : (a b : List Locations) (i k : ℕ) → length a ≡ length b → ((l : ℕ) → location_at (locations_at a l) k ≡ location_at (locations_at b l) k)
    → next_sharer a i k ≡ next_sharer b i k
next_column a b i k count same = next_same 0 i k a b count (λ l. ap (is_at i) (same l))

pub without_column : (a b : List Locations) (i k j : ℕ) → length a ≡ length b → ((l : ℕ) → location_at (locations_at a l) k ≡ location_at (locations_at b l) k) → location_without a i k j ≡ location_without b i k j
without_column a b i k j count same =
    rw (same j, same i, next_column a b i k count same) refl

pub left_column : (a b : List Locations) (i k : ℕ) → length a ≡ length b → ((l : ℕ) → location_at (locations_at a l) k ≡ location_at (locations_at b l) k)
    → piece_left (next_sharer a i k) (location_at (locations_at a i) k) ≡ piece_left (next_sharer b i k) (location_at (locations_at b i) k)
left_column a b i k count same =
    ap (λ (o : Option ℕ). piece_left o (location_at (locations_at a i) k)) (next_column a b i k count same)
    ∙ ap (piece_left (next_sharer b i k)) (same i)

-- where each piece stands where it stood, the same pieces are left
with_stays : (i : ℕ) (s t : Location) → IsSameLocation s t → is_at i s ≡ is_at i t
with_stays i (Here p) (Here q) same = refl
with_stays i (Here p) (At h) same = absurd same
with_stays i (At h) t same = sym (ap (is_at i) same)

pub sharer_stays : (a b : List Locations) (i k : ℕ) → length a ≡ length b → SameLocations a b → next_sharer a i k ≡ next_sharer b i k
sharer_stays a b i k count stands = next_same 0 i k a b count (λ l. with_stays i (location_at (locations_at a l) k) (location_at (locations_at b l) k) (stands l k))

piece_stays : (o : Option ℕ) (s t : Location) → IsSameLocation s t → IsSamePiece (piece_left o s) (piece_left o t)
piece_stays (Some h) s t same = refl
piece_stays None (Here p) (Here q) same = same
piece_stays None (Here p) (At h) same = absurd same
piece_stays None (At h) t same = rw same refl

pub left_stays : (a b : List Locations) (i : ℕ) → length a ≡ length b → SameLocations a b → SamePieces (left_with a i) (left_with b i)
left_stays a b i count stands =
    let at = λ (k : ℕ). subst (λ (o : Option ℕ). IsSamePiece (piece_left (next_sharer a i k) (location_at (locations_at a i) k)) (piece_left o (location_at (locations_at b i) k)))
    (sharer_stays a b i k count stands)
    (piece_stays (next_sharer a i k) (location_at (locations_at a i) k) (location_at (locations_at b i) k) (stands i k)) in
    record { p0 = at 0; p1 = at 1; p2 = at 2; p3 = at 3 }

-- and what stands elsewhere afterwards stands there too
next_stays : (o : Option ℕ) (s t : Location) (j : ℕ) → IsSameLocation s t → IsSameLocation (location_next o s j) (location_next o t j)
next_stays None s t j same = refl
next_stays (Some h) s t j same =
    elim (eqb_tells j h) [
      | inl e ↦ rw e.0 same
      | inr e ↦ rw e.0 refl
    ]

pub without_stays : (a b : List Locations) (i k j : ℕ) → length a ≡ length b → SameLocations a b → IsSameLocation (location_without a i k j) (location_without b i k j)
without_stays a b i k j count stands =
    let next = sharer_stays a b i k count stands in
    let told : is_at i (location_at (locations_at a j) k) ≡ is_at i (location_at (locations_at b j) k) = with_stays i (location_at (locations_at a j) k) (location_at (locations_at b j) k) (stands j k) in
    elim (eqb_tells j i) [
      | inl e ↦ rw e.0 refl
      | inr e ↦
          elim (told_or_not (is_at i (location_at (locations_at b j) k))) [
            | inl f ↦ rw (e.0, told, f, next) (next_stays (next_sharer b i k) (location_at (locations_at a i) k) (location_at (locations_at b i) k) j (stands i k))
            | inr f ↦ rw (e.0, told, f) (stands j k)
          ]
    ]

-- what stands with instance i is handed on
module _ (sharing sharing' : List Locations) (i : ℕ) (owners : AllHaveOwners sharing) (handed : (j k : ℕ) → location_at (locations_at sharing' j) k ≡ location_without sharing i k j) where
  pub stays_here : (j k : ℕ) (p : Option Span) → j ≢ i → location_at (locations_at sharing j) k ≡ Here p → location_at (locations_at sharing' j) k ≡ Here p
  stays_here j k p apart is =
      let other : location_at (locations_at sharing j) k ≢ At i = λ e. (let both : Here p ≡ At i = sym is ∙ e in cc) in
      handed j k ∙ without_apart sharing i k j apart other ∙ is

  pub stays_with : (j k g : ℕ) → j ≢ i → g ≢ i → location_at (locations_at sharing j) k ≡ At g → location_at (locations_at sharing' j) k ≡ At g
  stays_with j k g apart elsewhere is =
      let other : location_at (locations_at sharing j) k ≢ At i = λ e. elsewhere (let both : At g ≡ At i = sym is ∙ e in cc) in
      handed j k ∙ without_apart sharing i k j apart other ∙ is

  -- a record that stood with i: it stands with the next sharer h
  pub goes : (j k h : ℕ) → j ≢ i → location_at (locations_at sharing j) k ≡ At i → next_sharer sharing i k ≡ Some h → location_at (locations_at sharing' j) k ≡ location_next (Some h) (location_at (locations_at sharing i) k) j
  goes j k h apart is next = handed j k ∙ without_held sharing i k j h apart is next

  -- which is another instance
  pub next_apart : (h k : ℕ) → location_at (locations_at sharing h) k ≡ At i → h ≢ i
  next_apart h k is same =
      let here = owners h k i is in
      let both : At i ≡ Here (Some here.0) = sym is ∙ ap (λ (x : ℕ). location_at (locations_at sharing x) k) same ∙ here.1 in
      cc

  seen_by : (j k : ℕ) (s : Location) → j ≢ i → location_at (locations_at sharing j) k ≡ s → piece_seen sharing' j k ≡ piece_seen sharing j k
  seen_by j k (Here p) apart is = seen_here sharing' j k p (stays_here j k p apart is) ∙ sym (seen_here sharing j k p is)
  seen_by j k (At g) apart is =
      let here = owners j k g is in
      let old : piece_seen sharing j k ≡ Some here.0 = seen_with sharing j k g is ∙ ap piece_here here.1 in
      elim (eqb_tells g i) [
        | inr e ↦ seen_with sharing' j k g (stays_with j k g apart e.1 is) ∙ ap piece_here (stays_here g k (Some here.0) e.1 here.1) ∙ sym old
        | inl e ↦
            let with_i : location_at (locations_at sharing j) k ≡ At i = is ∙ ap At e.1 in
            let owner_is : location_at (locations_at sharing i) k ≡ Here (Some here.0) = ap (λ (x : ℕ). location_at (locations_at sharing x) k) (sym e.1) ∙ here.1 in
            let next = next_of sharing i k j with_i in
            let at_next : location_at (locations_at sharing' next.0) k ≡ Here (Some here.0) =
            goes next.0 k next.0 (next_apart next.0 k next.2) next.2 next.1 ∙ next_here next.0 _ next.0 refl ∙ owner_is in
            elim (eqb_tells j next.0) [
              | inl f ↦ seen_here sharing' j k (Some here.0) (ap (λ (x : ℕ). location_at (locations_at sharing' x) k) f.1 ∙ at_next) ∙ sym old
              | inr f ↦ seen_with sharing' j k next.0 (goes j k next.0 apart with_i next.1 ∙ next_there next.0 _ j f.1) ∙ ap piece_here at_next ∙ sym old
            ]
      ]

  -- and each other instance sees the same pieces
  pub once_handed : (j : ℕ) → j ≢ i → shared_at sharing' j ≡ shared_at sharing j
  once_handed j apart =
      four_pieces (shared_at sharing' j) (shared_at sharing j)
      (seen_by j 0 (location_at (locations_at sharing j) 0) apart refl) (seen_by j 1 (location_at (locations_at sharing j) 1) apart refl)
      (seen_by j 2 (location_at (locations_at sharing j) 2) apart refl) (seen_by j 3 (location_at (locations_at sharing j) 3) apart refl)

-- past the table nothing stands
below_or_past : (n b : ℕ) → (n < b) ⊎ (b ≤ n)
below_or_past n zero = inr (omega arith)
below_or_past zero (suc b) = inl (omega arith)
below_or_past (suc n) (suc b) =
    elim (below_or_past n b) [
      | inl h ↦ inl (omega (arith, h))
      | inr h ↦ inr (omega (arith, h))
    ]

past_location : (sharing : List Locations) (n k : ℕ) → length sharing ≤ n → location_at (locations_at sharing n) k ≡ Here None
past_location sharing n k past = ap (λ (s : Locations). location_at s k) (get_or_past sharing n no_locations past) ∙ no_location k

pub all_pointed : (a b : List Locations) (size i next k : ℕ) → length a ≡ size → length b ≡ size
    → ((n : ℕ) → n < size → location_at (locations_at a n) k ≡ pointed i next (location_at (locations_at b n) k)) → (n : ℕ) → location_at (locations_at a n) k ≡ pointed i next (location_at (locations_at b n) k)
all_pointed a b size i next k count_a count_b below n =
    elim (below_or_past n size) [
      | inl h ↦ below n h
      | inr h ↦ past_location a n k (omega (arith, h, count_a)) ∙ sym (ap (pointed i next) (past_location b n k (omega (arith, h, count_b))))
    ]

-- an instance whose record stands with another is in the table
pub with_inside : (sharing : List Locations) (h k i : ℕ) → location_at (locations_at sharing h) k ≡ At i → h < length sharing
with_inside sharing h k i is =
    elim (below_or_past h (length sharing)) [
      | inl e ↦ e
      | inr e ↦ let both : Here None ≡ At i = sym (past_location sharing h k e) ∙ is in cc
    ]

sharer_is : (n : ℕ) (sharing : List Locations) (i k h : ℕ) → sharer_from n sharing i k ≡ Some h → (d : ℕ) × (h ≡ n + d) × (location_at (locations_at sharing d) k ≡ At i)
sharer_is n [] i k h next = absurd (none-some h next)
sharer_is n (s ∷ sharing) i k h next =
    elim (told_or_not (is_at i (location_at s k))) [
      | inl e ↦
          let same : n ≡ h = same_Some n h (rw e at next) in
          (0, omega (arith, same), with_of i (location_at s k) e)
      | inr e ↦
          let later = sharer_is (suc n) sharing i k h (rw e at next) in
          (suc later.0, omega (arith, later.1), later.2)
    ]

-- the next sharer's record stands with the instance
pub next_is : (sharing : List Locations) (i k h : ℕ) → next_sharer sharing i k ≡ Some h → location_at (locations_at sharing h) k ≡ At i
next_is sharing i k h next =
    let found = sharer_is 0 sharing i k h next in
    let same : h ≡ found.0 = omega (arith, found.1) in
    ap (λ (x : ℕ). location_at (locations_at sharing x) k) same ∙ found.2

pub none_stands : (sharing : List Locations) (i k j : ℕ) → next_sharer sharing i k ≡ None → location_at (locations_at sharing j) k ≢ At i
none_stands sharing i k j none is = let next = next_of sharing i k j is in none-some next.0 (sym none ∙ next.1)

pointed_with : (i h : ℕ) (s : Location) → s ≡ At i → pointed i h s ≡ At h
pointed_with i h s is = rw (with_told i s is) refl

pointed_not : (i h : ℕ) (s : Location) → is_at i s ≡ false → pointed i h s ≡ s
pointed_not i h s other = rw other refl

-- where there is a next sharer, that one gets the stand, and the others stand with it
module _ (sharing sharing1 sharing2 sharing3 : List Locations) (i k h : ℕ) (next : next_sharer sharing i k ≡ Some h) (apart : location_at (locations_at sharing i) k ≢ At i)
    (there : (j : ℕ) → j ≢ i → location_at (locations_at sharing1 j) k ≡ location_at (locations_at sharing j) k) (here : location_at (locations_at sharing1 i) k ≡ Here None)
    (points : (j : ℕ) → location_at (locations_at sharing2 j) k ≡ pointed i h (location_at (locations_at sharing1 j) k)) where
  pub next_other : h ≢ i
  next_other same = apart (ap (λ (x : ℕ). location_at (locations_at sharing x) k) (sym same) ∙ next_is sharing i k h next)

  pub next_points : location_at (locations_at sharing2 h) k ≡ At h
  next_points = points h ∙ pointed_with i h _ (there h next_other ∙ next_is sharing i k h next)

  pub handed_next : ((j : ℕ) → j ≢ h → location_at (locations_at sharing3 j) k ≡ location_at (locations_at sharing2 j) k) → location_at (locations_at sharing3 h) k ≡ location_at (locations_at sharing i) k
      → (j : ℕ) → location_at (locations_at sharing3 j) k ≡ location_without sharing i k j
  handed_next stays gets j =
      elim (eqb_tells j i) [
        | inl e ↦
            stays j (λ f. next_other (sym f ∙ e.1)) ∙ points j
            ∙ ap (pointed i h) (ap (λ (x : ℕ). location_at (locations_at sharing1 x) k) e.1 ∙ here)
            ∙ sym (without_gone sharing i k j e.1)
        | inr e ↦
            elim (eqb_tells j h) [
              | inl f ↦
                  let is : location_at (locations_at sharing j) k ≡ At i = ap (λ (x : ℕ). location_at (locations_at sharing x) k) f.1 ∙ next_is sharing i k h next in
                  ap (λ (x : ℕ). location_at (locations_at sharing3 x) k) f.1 ∙ gets
                  ∙ sym (without_held sharing i k j h e.1 is next ∙ next_here h _ j f.1)
              | inr f ↦
                  let now : location_at (locations_at sharing3 j) k ≡ pointed i h (location_at (locations_at sharing j) k) = stays j f.1 ∙ points j ∙ ap (pointed i h) (there j e.1) in
                  elim (told_or_not (is_at i (location_at (locations_at sharing j) k))) [
                    | inl t ↦
                        let is : location_at (locations_at sharing j) k ≡ At i = with_of i (location_at (locations_at sharing j) k) t in
                        now ∙ pointed_with i h _ is ∙ sym (without_held sharing i k j h e.1 is next ∙ next_there h _ j f.1)
                    | inr t ↦
                        now ∙ pointed_not i h _ t
                        ∙ sym (without_apart sharing i k j e.1 (λ is. true≢false (sym (with_told i (location_at (locations_at sharing j) k) is) ∙ t)))
                  ]
            ]
      ]

-- where there is none, no record stood with the instance
pub handed_none : (sharing sharing1 : List Locations) (i k : ℕ) → next_sharer sharing i k ≡ None
    → ((j : ℕ) → j ≢ i → location_at (locations_at sharing1 j) k ≡ location_at (locations_at sharing j) k) → location_at (locations_at sharing1 i) k ≡ Here None
    → (j : ℕ) → location_at (locations_at sharing1 j) k ≡ location_without sharing i k j
handed_none sharing sharing1 i k none there here j =
    elim (eqb_tells j i) [
      | inl e ↦ ap (λ (x : ℕ). location_at (locations_at sharing1 x) k) e.1 ∙ here ∙ sym (without_gone sharing i k j e.1)
      | inr e ↦ there j e.1 ∙ sym (without_apart sharing i k j e.1 (none_stands sharing i k j none))
    ]

-- no record stands with its own instance
pub held_apart : (sharing : List Locations) (i k : ℕ) → HoldsForOthers sharing i k → location_at (locations_at sharing i) k ≢ At i
held_apart sharing i k held is =
    let here = held i is in
    let both : At i ≡ Here (Some here.0) = sym is ∙ here.1 in
    cc

-- what is held for others is so where this record of each instance stands as before
pub held_column : (a b : List Locations) (i k : ℕ) → ((j : ℕ) → location_at (locations_at b j) k ≡ location_at (locations_at a j) k) → HoldsForOthers a i k → HoldsForOthers b i k
held_column a b i k same held j is =
    let here = held j (sym (same j) ∙ is) in
    (here.0, same i ∙ here.1)

next_or_none : (sharing : List Locations) (i k : ℕ) (o : Option ℕ) → next_sharer sharing i k ≡ o → HoldsForOthers sharing i k → location_at (locations_at sharing i) k ≡ Here None → next_sharer sharing i k ≡ None
next_or_none sharing i k None is held none = is
next_or_none sharing i k (Some h) is held none =
    let here = held h (next_is sharing i k h is) in
    let both : Here None ≡ Here (Some here.0) = sym none ∙ here.1 in
    cc

-- where no piece is, nobody's record stands with it
pub nobody_next : (sharing : List Locations) (i k : ℕ) → HoldsForOthers sharing i k → location_at (locations_at sharing i) k ≡ Here None → next_sharer sharing i k ≡ None
nobody_next sharing i k held none = next_or_none sharing i k (next_sharer sharing i k) refl held none

-- record k was handed on, and no other
pub record HandsOn (i k : ℕ) (sharing sharing' : List Locations) : Type 0 where
  pub count : length sharing' ≡ length sharing
  pub handed : (j : ℕ) → location_at (locations_at sharing' j) k ≡ location_without sharing i k j
  pub beside : (j l : ℕ) → l ≢ k → location_at (locations_at sharing' j) l ≡ location_at (locations_at sharing j) l

-- all four, in turn
module _ (i : ℕ) (a b c d : List Locations) (first : HandsOn i 0 a b) (second : HandsOn i 1 b c) (third : HandsOn i 2 c d) where
  pub column1 : (j l : ℕ) → l ≢ 0 → location_at (locations_at b j) l ≡ location_at (locations_at a j) l
  column1 j l apart0 = first.beside j l apart0

  pub column2 : (j l : ℕ) → l ≢ 0 → l ≢ 1 → location_at (locations_at c j) l ≡ location_at (locations_at a j) l
  column2 j l apart0 apart1 = second.beside j l apart1 ∙ column1 j l apart0

  pub column3 : (j l : ℕ) → l ≢ 0 → l ≢ 1 → l ≢ 2 → location_at (locations_at d j) l ≡ location_at (locations_at a j) l
  column3 j l apart0 apart1 apart2 = third.beside j l apart2 ∙ column2 j l apart0 apart1

  count2 : length c ≡ length a
  count2 = second.count ∙ first.count

  count3 : length d ≡ length a
  count3 = third.count ∙ count2

  -- what comes back
  pub left1 : piece_left (next_sharer b i 1) (location_at (locations_at b i) 1) ≡ piece_left (next_sharer a i 1) (location_at (locations_at a i) 1)
  left1 = left_column b a i 1 first.count (λ l. column1 l 1 (omega arith))

  pub left2 : piece_left (next_sharer c i 2) (location_at (locations_at c i) 2) ≡ piece_left (next_sharer a i 2) (location_at (locations_at a i) 2)
  left2 = left_column c a i 2 count2 (λ l. column2 l 2 (omega arith) (omega arith))

  pub left3 : piece_left (next_sharer d i 3) (location_at (locations_at d i) 3) ≡ piece_left (next_sharer a i 3) (location_at (locations_at a i) 3)
  left3 = left_column d a i 3 count3 (λ l. column3 l 3 (omega arith) (omega arith) (omega arith))

  module _ (e : List Locations) (fourth : HandsOn i 3 d e) where
    pub all_handed : (j k : ℕ) → location_at (locations_at e j) k ≡ location_without a i k j
    all_handed j zero = fourth.beside j 0 (omega arith) ∙ third.beside j 0 (omega arith) ∙ second.beside j 0 (omega arith) ∙ first.handed j
    all_handed j (suc zero) =
        fourth.beside j 1 (omega arith) ∙ third.beside j 1 (omega arith) ∙ second.handed j
        ∙ without_column b a i 1 j first.count (λ l. column1 l 1 (omega arith))
    all_handed j (suc (suc zero)) =
        fourth.beside j 2 (omega arith) ∙ third.handed j
        ∙ without_column c a i 2 j count2 (λ l. column2 l 2 (omega arith) (omega arith))
    all_handed j (suc (suc (suc zero))) =
        fourth.handed j
        ∙ without_column d a i 3 j count3 (λ l. column3 l 3 (omega arith) (omega arith) (omega arith))
    all_handed j (suc (suc (suc (suc k)))) =
        elim (eqb_tells j i) [
          | inl f ↦ rw f.0 refl
          | inr f ↦ rw f.0 refl
        ]

    pub all_gone : locations_at e i ≡ no_locations
    all_gone = four_locations (locations_at e i) no_locations (λ k. all_handed i k ∙ without_gone a i k i refl ∙ sym (no_location k))
