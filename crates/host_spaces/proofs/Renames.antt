-- Blocks whose owners have other names.
use Rattle.std.proofs.Common.{◌≡◌, ◌≢◌, ◌⊎◌, inl, inr, ℕ, zero, suc, ◌<◌, Bool, true, false, if◌then◌else◌, List, [], ◌∷◌, length, get_or, Contains, refl, sym, ap, subst, ◌∙◌, arith}
use Rattle.relocate.proofs.RangeTests.{true_or_false, when_not}
use Rattle.relocate.specs.Places.{Range}
use Rattle.space_heap.specs.Maps.{HeapState, Holds}
use Rattle.relocate.specs.declared.packing.Spot.{Spot}
use Rattle.relocate.specs.Spots.{AreSpots}
use Rattle.host_map.specs.declared.placed.Owner.{Owner}
use Rattle.host_map.specs.declared.placed.Placed.{Placed}
use Rattle.host_map.specs.Blocks.{AreSingle, IsOwner, block_range, owned, ranges, renamed_block, renamed_blocks, renaming, same_owner}
use Rattle.host_map.specs.Moves.{spot_of, spots_of}
use Rattle.host_spaces.specs.Spaces.{AreKept}
use Rattle.host_spaces.proofs.Orders.{dropped, kept}
use Rattle.host_spaces.proofs.Owners.{itself, not_same, one_owner}

-- an owner without blocks has neither the first nor any of the rest
pub not_first : (o : Owner) (b : Placed) (bs : List Placed) → owned o (b ∷ bs) ≡ [] → same_owner o b.owner ≡ false
not_first o b bs none = when_not (same_owner o b.owner) (λ is. let n = ap length (sym (kept (λ c. same_owner o c.owner) b bs is) ∙ none) in omega arith)

pub none_behind : (o : Owner) (b : Placed) (bs : List Placed) → owned o (b ∷ bs) ≡ [] → owned o bs ≡ []
none_behind o b bs none = sym (dropped (λ c. same_owner o c.owner) b bs (not_first o b bs none)) ∙ none

same_for : (o q : Owner) → q ≡ o → same_owner o q ≡ true
same_for o q is = ap (same_owner o) is ∙ itself o

module _ (new : Owner → Owner) where
  first_kept : (o : Owner) (b : Placed) (bs : List Placed) → same_owner o (new b.owner) ≡ true
      → owned o (renamed_blocks new (b ∷ bs)) ≡ renamed_block new b ∷ owned o (renamed_blocks new bs)
  first_kept o b bs is = kept (λ c. same_owner o c.owner) (renamed_block new b) (renamed_blocks new bs) is

  first_dropped : (o : Owner) (b : Placed) (bs : List Placed) → same_owner o (new b.owner) ≡ false
      → owned o (renamed_blocks new (b ∷ bs)) ≡ owned o (renamed_blocks new bs)
  first_dropped o b bs out = dropped (λ c. same_owner o c.owner) (renamed_block new b) (renamed_blocks new bs) out

  -- an owner whose name nobody gets has nothing
  pub renamed_gone : (o : Owner) → ((q : Owner) → new q ≢ o) → (bs : List Placed) → owned o (renamed_blocks new bs) ≡ []
  renamed_gone o never [] = refl
  renamed_gone o never (b ∷ bs) =
      first_dropped o b bs (not_same o (new b.owner) (λ e. never b.owner (sym e))) ∙ renamed_gone o never bs

  -- an owner who keeps its name, which no other gets, has the same blocks
  pub renamed_same : (o : Owner) → new o ≡ o → ((q : Owner) → new q ≡ o → q ≡ o) → (bs : List Placed) → owned o (renamed_blocks new bs) ≡ owned o bs
  renamed_same o stays alone [] = refl
  renamed_same o stays alone (b ∷ bs) = elim (true_or_false (same_owner o (new b.owner))) [
    | inl is ↦ let it : b.owner ≡ o = alone b.owner (sym (one_owner o (new b.owner) is)) in
        let named : new b.owner ≡ b.owner = ap new it ∙ stays ∙ sym it in
        first_kept o b bs is
        ∙ ap (λ (q : Owner). let c : Placed = record b { owner = q } in c ∷ owned o (renamed_blocks new bs)) named
        ∙ ap (λ xs. b ∷ xs) (renamed_same o stays alone bs)
        ∙ sym (kept (λ c. same_owner o c.owner) b bs (same_for o b.owner it))
    | inr out ↦ first_dropped o b bs out ∙ renamed_same o stays alone bs
        ∙ sym (dropped (λ c. same_owner o c.owner) b bs
        (when_not (same_owner o b.owner) (λ is. let it : b.owner ≡ o = sym (one_owner o b.owner is) in
        let bad : true ≡ false = sym (same_for o (new b.owner) (ap new it ∙ stays)) ∙ out in cc)))
  ]

  -- an owner without blocks has those of the one who gets its name
  pub renamed_given : (p o : Owner) → new p ≡ o → ((q : Owner) → new q ≡ o → (q ≡ p) ⊎ (q ≡ o)) → (bs : List Placed) → owned o bs ≡ []
      → owned o (renamed_blocks new bs) ≡ renamed_blocks (λ _. o) (owned p bs)
  renamed_given p o named alone [] none = refl
  renamed_given p o named alone (b ∷ bs) none = elim (true_or_false (same_owner o (new b.owner))) [
    | inl is ↦ let gets : new b.owner ≡ o = sym (one_owner o (new b.owner) is) in
        let it : b.owner ≡ p = elim (alone b.owner gets) [
          | inl e ↦ e
          | inr e ↦ absurd (let bad : true ≡ false = sym (same_for o b.owner e) ∙ not_first o b bs none in cc)
        ] in
        first_kept o b bs is
        ∙ ap (λ (q : Owner). let c : Placed = record b { owner = q } in c ∷ owned o (renamed_blocks new bs)) gets
        ∙ ap (λ xs. let c : Placed = record b { owner = o } in c ∷ xs) (renamed_given p o named alone bs (none_behind o b bs none))
        ∙ sym (ap (renamed_blocks (λ _. o)) (kept (λ c. same_owner p c.owner) b bs (same_for p b.owner it)))
    | inr out ↦ first_dropped o b bs out ∙ renamed_given p o named alone bs (none_behind o b bs none)
        ∙ sym (ap (renamed_blocks (λ _. o)) (dropped (λ c. same_owner p c.owner) b bs
        (when_not (same_owner p b.owner) (λ is. let it : b.owner ≡ p = sym (one_owner p b.owner is) in
        let bad : true ≡ false = sym (same_for o (new b.owner) (ap new it ∙ named)) ∙ out in cc))))
  ]

  -- where blocks lie doesn't change
  pub renamed_ranges : (bs : List Placed) → ranges (renamed_blocks new bs) ≡ ranges bs
  renamed_ranges [] = refl
  renamed_ranges (b ∷ bs) = ap (λ (rs : List Range). block_range b ∷ rs) (renamed_ranges bs)

  pub renamed_spots : (bs : List Placed) → spots_of (renamed_blocks new bs) ≡ spots_of bs
  renamed_spots [] = refl
  renamed_spots (b ∷ bs) = ap (λ (ss : List Spot). spot_of b ∷ ss) (renamed_spots bs)

  pub renamed_count : (bs : List Placed) → length (renamed_blocks new bs) ≡ length bs
  renamed_count [] = refl
  renamed_count (b ∷ bs) = ap suc (renamed_count bs)

  -- the heap holds them as before
  pub kept_renamed : (heap : HeapState) (bs : List Placed) → AreKept heap bs → AreKept heap (renamed_blocks new bs)
  kept_renamed heap bs kept = record {
    size = kept.size;
    held = subst (λ rs. Holds heap rs) (sym (renamed_ranges bs)) kept.held;
    order = subst (λ ss. AreSpots ss) (sym (renamed_spots bs)) kept.order;
    counted = kept.counted;
  }

-- names that are the same give the same blocks
pub renamed_alike : (new other : Owner → Owner) → ((o : Owner) → new o ≡ other o) → (bs : List Placed) → renamed_blocks new bs ≡ renamed_blocks other bs
renamed_alike new other same [] = refl
renamed_alike new other same (b ∷ bs) =
    ap (λ (o : Owner). let c : Placed = record b { owner = o } in c ∷ renamed_blocks new bs) (same b.owner)
    ∙ ap (λ xs. renamed_block other b ∷ xs) (renamed_alike new other same bs)

-- one renaming after another
pub renamed_twice : (new then_ : Owner → Owner) (bs : List Placed) → renamed_blocks then_ (renamed_blocks new bs) ≡ renamed_blocks (λ o. then_ (new o)) bs
renamed_twice new then_ [] = refl
renamed_twice new then_ (b ∷ bs) = ap (λ xs. renamed_block (λ o. then_ (new o)) b ∷ xs) (renamed_twice new then_ bs)

-- ---- one owner for another

module _ (from to : Owner) where
  pub renames : renaming from to from ≡ to
  renames = ap (λ t. if t then to else from) (itself from)

  pub leaves : (o : Owner) → o ≢ from → renaming from to o ≡ o
  leaves o apart = ap (λ t. if t then to else o) (not_same from o (λ e. apart (sym e)))

  choice : (t : Bool) (q o : Owner) → (t ≡ true → q ≡ from) → (if t then to else q) ≡ o → ((q ≡ from) × (to ≡ o)) ⊎ (q ≡ o)
  choice true q o it is = inl (it refl, is)
  choice false q o it is = inr is

  named_by : (q o : Owner) → renaming from to q ≡ o → ((q ≡ from) × (to ≡ o)) ⊎ (q ≡ o)
  named_by q o is = choice (same_owner from q) q o (λ it. sym (one_owner from q it)) is

  pub owner_given : (bs : List Placed) → owned to bs ≡ [] → owned to (renamed_blocks (renaming from to) bs) ≡ renamed_blocks (λ _. to) (owned from bs)
  owner_given bs none =
      renamed_given (renaming from to) from to renames
      (λ q is. elim (named_by q to is) [ inl it ↦ inl it.0 | inr it ↦ inr it ]) bs none

  pub owner_left : from ≢ to → (bs : List Placed) → owned from (renamed_blocks (renaming from to) bs) ≡ []
  owner_left apart bs =
      renamed_gone (renaming from to) from
      (λ q is. elim (named_by q from is) [ inl it ↦ apart (sym it.1) | inr it ↦ apart (sym is ∙ ap (renaming from to) it ∙ renames) ]) bs

  pub other_owner : (o : Owner) → o ≢ from → o ≢ to → (bs : List Placed) → owned o (renamed_blocks (renaming from to) bs) ≡ owned o bs
  other_owner o apart away bs =
      renamed_same (renaming from to) o (leaves o apart)
      (λ q is. elim (named_by q o is) [ inl it ↦ absurd (away (sym it.1)) | inr it ↦ it ]) bs

  module _ (is : IsOwner to) where
    one_of : (t : Bool) (o : Owner) → IsOwner o → IsOwner (if t then to else o)
    one_of true o it = is
    one_of false o it = it

    owners_renamed : (bs : List Placed) → ((b : Placed) → Contains bs b → IsOwner b.owner)
        → (k : ℕ) (b : Placed) → k < length (renamed_blocks (renaming from to) bs) → get_or (renamed_blocks (renaming from to) bs) k b ≡ b → IsOwner b.owner
    owners_renamed [] each k b lt at = absurd (omega arith)
    owners_renamed (c ∷ cs) each zero b lt at =
        subst (λ (x : Placed). IsOwner x.owner) at (one_of (same_owner from c.owner) c.owner (each c (zero, (let n : zero < suc (length cs) = omega arith in n), refl)))
    owners_renamed (c ∷ cs) each (suc k) b lt at =
        owners_renamed cs (λ x it. let inside = it.1 in each x (suc it.0, (let n : suc it.0 < suc (length cs) = omega arith in n), it.2)) k b (omega arith) at

    -- a free owner gets the blocks of another, and no owner has two
    pub single_renamed : (bs : List Placed) → owned to bs ≡ [] → AreSingle bs → AreSingle (renamed_blocks (renaming from to) bs)
    single_renamed bs none are = record {
      owners = λ b it. owners_renamed bs are.owners it.0 b it.1 it.2;
      single = λ owner. elim (true_or_false (same_owner owner to)) [
        | inl it ↦ let e : owner ≡ to = one_owner owner to it in
            let n = ap length (ap (λ o. owned o (renamed_blocks (renaming from to) bs)) e ∙ owner_given bs none) in
            let m = renamed_count (λ _. to) (owned from bs) in let least = are.single from in omega arith
        | inr away ↦ elim (true_or_false (same_owner owner from)) [
          | inl it ↦ let e : owner ≡ from = one_owner owner from it in
              let apart : from ≢ to = (λ same. let bad : true ≡ false = sym (ap (same_owner owner) (sym same ∙ sym e) ∙ itself owner) ∙ away in cc) in
              let n = ap length (ap (λ o. owned o (renamed_blocks (renaming from to) bs)) e ∙ owner_left apart bs) in omega arith
          | inr out ↦
              let n = ap length (other_owner owner
              (λ e. let bad : true ≡ false = sym (ap (same_owner owner) (sym e) ∙ itself owner) ∙ out in cc)
              (λ e. let bad : true ≡ false = sym (ap (same_owner owner) (sym e) ∙ itself owner) ∙ away in cc) bs) in
              let least = are.single owner in omega arith
        ]
      ];
    }
