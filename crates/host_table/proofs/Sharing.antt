-- Who shares records once a new instance has joined its sharers.
use Rattle.std.proofs.Common.{◌≡◌, ◌≢◌, ℕ, inl, inr, List, Option, Some, None, nat_lt, refl, sym, ◌∙◌, ap, subst}
use Rattle.std.proofs.lemmas.Bool.{cases_Bool}
use Rattle.std.proofs.lemmas.Bool.Decides.{eqb_tells}
use Rattle.std.proofs.lemmas.Option.{none-some, same_Some}
use Rattle.space_raw.specs.Span.{Span}
use Rattle.lifecycle.specs.declared.instance.Instance.{Instance}
use Rattle.host_table.specs.declared.member.Member.{Member}
use Rattle.host_shared.specs.declared.locations.Location.{Location}
use Rattle.host_shared.specs.declared.locations.Location.TheVariants.{Here, At}
use Rattle.host_shared.specs.declared.locations.Locations.{Locations}
use Rattle.host_shared.specs.Locations.{location_at, locations_at, owner_by, owner_of}
use Rattle.host_shared.specs.Owners.{IsPieceHere, AllHaveOwners}
use Rattle.host_table.specs.Table.{slot_at, instance_of, AreAlike, IsSharer}
use Rattle.host_shared.specs.Joining.{location_over, location_beside, location_joined, CanJoin}
use Rattle.host_table.proofs.Held.{alike_back, alike_then}
use Rattle.host_shared.proofs.Joined.{owner_own_piece, here_not_with, piece_elsewhere, none_with, beside_here, beside_there, over_here, over_owner, over_there, owner_there}

-- what the sharer of a record is: an instance that is alike in it, and none where there is no such instance
pub record IsLeastSharer {M : Type 0} (instances : List (Option (Member M))) (k : ℕ) (a : Instance M) (t : ℕ) : Type 0 where
  pub member : Member M
  pub at : slot_at instances t ≡ Some member
  pub alike : AreAlike k a (instance_of member.inst)

abbrev pub TellsSharer : {M : Type 0} → List (Option (Member M)) → ℕ → Instance M → Option ℕ → Type 0
TellsSharer {M = M} instances k a None = (j : ℕ) (m : Member M) → slot_at instances j ≡ Some m → AreAlike k a (instance_of m.inst) → ⊥
TellsSharer {M = M} instances k a (Some t) = IsLeastSharer instances k a t

-- all sharers of a record live, and hold it together
abbrev pub HeldAt : {M : Type 0} → ℕ → List (Option (Member M)) → List Locations → Type 0
HeldAt k instances sharing = (j h : ℕ) → location_at (locations_at sharing j) k ≡ At h → IsSharer k (slot_at instances j) (slot_at instances h) (location_at (locations_at sharing h) k)

abbrev pub TogetherAt : {M : Type 0} → ℕ → List (Option (Member M)) → List Locations → Type 0
TogetherAt {M = M} k instances sharing = (i j : ℕ) (m n : Member M) → slot_at instances i ≡ Some m → slot_at instances j ≡ Some n
    → AreAlike k (instance_of m.inst) (instance_of n.inst) → owner_of sharing i k ≡ owner_of sharing j k

-- what holds of the record of all instances afterwards
pub record Shares {M : Type 0} (instances instances' : List (Option (Member M))) (sharing sharing' : List Locations) (i k : ℕ) : Type 0 where
  pub held : HeldAt k instances' sharing'
  pub bare : (j : ℕ) → j ≢ i → slot_at instances j ≡ None → location_at (locations_at sharing j) k ≡ Here None → location_at (locations_at sharing' j) k ≡ Here None
  pub together : TogetherAt k instances sharing → TogetherAt k instances' sharing'

-- a sharer whose owner becomes another instance, which is alike
sharer_moves : {M : Type 0} (k t : ℕ) (a : Option (Member M)) (owner : Option (Member M)) (m n : Member M) (s u : Location)
    → owner ≡ Some m → AreAlike k (instance_of n.inst) (instance_of m.inst) → IsSharer k a owner s → IsPieceHere u → IsSharer k a (Some n) u
sharer_moves {M = M} k t None owner m n s u is alike held here = held
sharer_moves {M = M} k t (Some b) None m n s u is alike held here = absurd (none-some m is)
sharer_moves {M = M} k t (Some b) (Some c) m n s u is alike held here =
    let same : c ≡ m = same_Some c m is in (
      alike_then k (instance_of b.inst) (instance_of m.inst) (instance_of n.inst) (subst (λ (x : Member M). AreAlike k (instance_of b.inst) (instance_of x.inst)) same held.0)
          (alike_back k (instance_of n.inst) (instance_of m.inst) alike),
      here,
    )

module _ {M : Type 0} (instances instances' : List (Option (Member M))) (sharing : List Locations) (i k : ℕ) (n : Member M) (owners : AllHaveOwners sharing) (bare : location_at (locations_at sharing i) k ≡ Here None)
    (filled : slot_at instances' i ≡ Some n) (others : (j : ℕ) → j ≢ i → slot_at instances' j ≡ slot_at instances j) (held : HeldAt k instances sharing) where
  -- the other sharers hold it as before, where their stands and those of their owners are as they were
  held_kept : (sharing' : List Locations) (j h : ℕ) → j ≢ i → location_at (locations_at sharing j) k ≡ At h → location_at (locations_at sharing' h) k ≡ location_at (locations_at sharing h) k
      → IsSharer k (slot_at instances' j) (slot_at instances' h) (location_at (locations_at sharing' h) k)
  held_kept sharing' j h apart was kept = rw (others j apart, others h (none_with sharing i k owners bare j h was), kept) (held j h was)

  -- the sharer of the new instance has the others that are alike with it
  owner_sharer : (j t : ℕ) (m : Member M) → TogetherAt k instances sharing → slot_at instances j ≡ Some m → AreAlike k (instance_of n.inst) (instance_of m.inst) → IsLeastSharer instances k (instance_of n.inst) t
      → IsPieceHere (location_at (locations_at sharing t) k) → owner_of sharing j k ≡ t
  owner_sharer j t m together at alike sharer here =
      together j t m sharer.member at sharer.at
      (alike_then k (instance_of m.inst) (instance_of n.inst) (instance_of sharer.member.inst) (alike_back k (instance_of n.inst) (instance_of m.inst) alike) sharer.alike)
      ∙ owner_own_piece sharing t k here

  -- whoever is alike has one owner, where the new instance has the owner that its likes have
  together_by : (sharing' : List Locations) → ((j : ℕ) (m : Member M) → j ≢ i → slot_at instances j ≡ Some m → AreAlike k (instance_of n.inst) (instance_of m.inst) → owner_of sharing' j k ≡ owner_of sharing' i k)
      → ((a b : ℕ) → a ≢ i → b ≢ i → owner_of sharing a k ≡ owner_of sharing b k → owner_of sharing' a k ≡ owner_of sharing' b k)
      → TogetherAt k instances sharing → TogetherAt k instances' sharing'
  together_by sharing' likes both together a b l m at_a at_b alike =
      elim (eqb_tells a i) [
        | inl e ↦
            let first : n ≡ l = same_Some n l (sym filled ∙ ap (slot_at instances') (sym e.1) ∙ at_a) in
            elim (eqb_tells b i) [
              | inl f ↦ ap (λ (x : ℕ). owner_of sharing' x k) (e.1 ∙ sym f.1)
              | inr f ↦
                  ap (λ (x : ℕ). owner_of sharing' x k) e.1
                  ∙ sym (likes b m f.1 (sym (others b f.1) ∙ at_b) (subst (λ (x : Member M). AreAlike k (instance_of x.inst) (instance_of m.inst)) (sym first) alike))
            ]
        | inr e ↦
            elim (eqb_tells b i) [
              | inl f ↦
                  let second : n ≡ m = same_Some n m (sym filled ∙ ap (slot_at instances') (sym f.1) ∙ at_b) in
                  likes a l e.1 (sym (others a e.1) ∙ at_a)
                  (subst (λ (x : Member M). AreAlike k (instance_of x.inst) (instance_of l.inst)) (sym second) (alike_back k (instance_of l.inst) (instance_of m.inst) alike))
                  ∙ ap (λ (x : ℕ). owner_of sharing' x k) (sym f.1)
              | inr f ↦ both a b e.1 f.1 (together a b l m (sym (others a e.1) ∙ at_a) (sym (others b f.1) ∙ at_b) alike)
            ]
      ]

  module _ (sharing' : List Locations) (s : Location) (new : (j : ℕ) → location_at (locations_at sharing' j) k ≡ location_beside sharing i k s j) where
    owner_beside : (j : ℕ) → j ≢ i → owner_of sharing' j k ≡ owner_of sharing j k
    owner_beside j apart = ap (owner_by j) (beside_there sharing i k owners bare sharing' s new j apart)

    beside_shares : ((h : ℕ) → s ≡ At h → IsSharer k (Some n) (slot_at instances h) (location_at (locations_at sharing h) k) × (h ≢ i))
        → (TogetherAt k instances sharing → (j : ℕ) (m : Member M) → j ≢ i → slot_at instances j ≡ Some m → AreAlike k (instance_of n.inst) (instance_of m.inst) → owner_of sharing j k ≡ owner_by i s)
        → Shares instances instances' sharing sharing' i k
    beside_shares fine likes = record {
      held = λ j h is.
          elim (eqb_tells j i) [
            | inl e ↦
                let there = fine h (sym (beside_here sharing i k owners bare sharing' s new) ∙ ap (λ (x : ℕ). location_at (locations_at sharing' x) k) (sym e.1) ∙ is) in
                rw (e.1, filled, others h there.1, beside_there sharing i k owners bare sharing' s new h there.1) there.0
            | inr e ↦
                let was : location_at (locations_at sharing j) k ≡ At h = sym (beside_there sharing i k owners bare sharing' s new j e.1) ∙ is in
                held_kept sharing' j h e.1 was (beside_there sharing i k owners bare sharing' s new h (none_with sharing i k owners bare j h was))
          ];
      bare = λ j apart none was. beside_there sharing i k owners bare sharing' s new j apart ∙ was;
      together = λ together.
          together_by sharing'
          (λ j m apart at alike. owner_beside j apart ∙ likes together j m apart at alike ∙ sym (ap (owner_by i) (beside_here sharing i k owners bare sharing' s new)))
          (λ a b first second same. owner_beside a first ∙ same ∙ sym (owner_beside b second))
          together;
    }

  module _ (sharing' : List Locations) (t : ℕ) (here : IsPieceHere (location_at (locations_at sharing t) k)) (sharer : IsLeastSharer instances k (instance_of n.inst) t)
      (new : (j : ℕ) → location_at (locations_at sharing' j) k ≡ location_over sharing i k t j) where
    owner_here : owner_of sharing' i k ≡ i
    owner_here = ap (owner_by i) (over_here sharing i k owners bare sharing' t here new ∙ here.1)

    owner_moved : (j : ℕ) → j ≢ i → owner_of sharing j k ≡ t → owner_of sharing' j k ≡ i
    owner_moved j apart owner = ap (owner_by j) (over_owner sharing i k owners bare sharing' t here new j apart owner)

    owner_stays : (j : ℕ) → j ≢ i → owner_of sharing j k ≢ t → owner_of sharing' j k ≡ owner_of sharing j k
    owner_stays j apart other = ap (owner_by j) (over_there sharing i k owners bare sharing' t here new j apart other)

    -- one that stands with the sharer holds the record with it
    held_moved : (j : ℕ) (x : Location) → j ≢ i → location_at (locations_at sharing j) k ≡ x → owner_by j x ≡ t → IsSharer k (slot_at instances j) (Some n) (location_at (locations_at sharing' i) k)
    held_moved j (Here p) apart is owner =
        rw (ap (slot_at instances) owner ∙ sharer.at)
        (alike_back k (instance_of n.inst) (instance_of sharer.member.inst) sharer.alike, subst IsPieceHere (sym (over_here sharing i k owners bare sharing' t here new)) here)
    held_moved j (At h) apart is owner =
        sharer_moves k t (slot_at instances j) (slot_at instances h) sharer.member n (location_at (locations_at sharing h) k) (location_at (locations_at sharing' i) k)
        (ap (slot_at instances) owner ∙ sharer.at) sharer.alike (held j h is) (subst IsPieceHere (sym (over_here sharing i k owners bare sharing' t here new)) here)

    over_shares : Shares instances instances' sharing sharing' i k
    over_shares = record {
      held = λ j h is.
          elim (eqb_tells j i) [
            | inl e ↦ absurd (here_not_with (location_at (locations_at sharing t) k) h here (sym (over_here sharing i k owners bare sharing' t here new) ∙ ap (λ (x : ℕ). location_at (locations_at sharing' x) k) (sym e.1) ∙ is))
            | inr e ↦
                elim (eqb_tells (owner_of sharing j k) t) [
                  | inl f ↦
                      let same : i ≡ h = (let both : At i ≡ At h = sym (over_owner sharing i k owners bare sharing' t here new j e.1 f.1) ∙ is in cc) in
                      rw (others j e.1)
                      (subst (λ (x : ℕ). IsSharer k (slot_at instances j) (slot_at instances' x) (location_at (locations_at sharing' x) k)) same
                      (subst (λ (x : Option (Member M)). IsSharer k (slot_at instances j) x (location_at (locations_at sharing' i) k)) (sym filled) (held_moved j (location_at (locations_at sharing j) k) e.1 refl f.1)))
                  | inr f ↦
                      let was : location_at (locations_at sharing j) k ≡ At h = sym (over_there sharing i k owners bare sharing' t here new j e.1 f.1) ∙ is in
                      held_kept sharing' j h e.1 was (owner_there sharing i k owners bare sharing' t here new j h f.1 was)
                ]
          ];
      bare = λ j apart none was.
          let other : owner_of sharing j k ≢ t = λ owner.
          (let same : j ≡ t = sym (ap (owner_by j) was) ∙ owner in
          none-some sharer.member (sym none ∙ ap (slot_at instances) same ∙ sharer.at)) in
          over_there sharing i k owners bare sharing' t here new j apart other ∙ was;
      together = λ together.
          together_by sharing'
          (λ j m apart at alike. owner_moved j apart (owner_sharer j t m together at alike sharer here) ∙ sym owner_here)
          (λ a b first second same.
          elim (eqb_tells (owner_of sharing a k) t) [
            | inl e ↦ owner_moved a first e.1 ∙ sym (owner_moved b second (sym same ∙ e.1))
            | inr e ↦ owner_stays a first e.1 ∙ same ∙ sym (owner_stays b second (λ f. e.1 (same ∙ f)))
          ])
          together;
    }

  -- whatever the sharer is
  pub column_shares : (sharing' : List Locations) (t : Option ℕ) (p : Option Span) → TellsSharer instances k (instance_of n.inst) t → CanJoin sharing k t p
      → ((j : ℕ) → location_at (locations_at sharing' j) k ≡ location_joined sharing i k t p j) → Shares instances instances' sharing sharing' i k
  column_shares sharing' None p sharer can new =
      beside_shares sharing' (Here p) new
      (λ h is. let both : Here p ≡ At h = is in cc)
      (λ together j m apart at alike. absurd (sharer j m at alike))
  column_shares sharing' (Some t) p sharer can new =
      elim (cases_Bool (nat_lt t i)) [
        | inl e ↦
            let now : (j : ℕ) → location_at (locations_at sharing' j) k ≡ location_beside sharing i k (At t) j = λ j. rw e at (new j) in
            beside_shares sharing' (At t) now
            (λ h is.
            let same : t ≡ h = (let both : At t ≡ At h = is in cc) in (
              subst (λ (x : ℕ). IsSharer k (Some n) (slot_at instances x) (location_at (locations_at sharing x) k)) same (rw sharer.at (sharer.alike, can.here)),
              λ f. piece_elsewhere sharing i k owners bare t can.here (same ∙ f),
            ))
            (λ together j m apart at alike. owner_sharer j t m together at alike sharer can.here)
        | inr e ↦ over_shares sharing' t can.here sharer (λ j. rw e at (new j))
      ]
