-- The blocks of one owner.
use Rattle.std.proofs.Common.{◌≡◌, ◌≢◌, ℕ, zero, suc, ◌<◌, ◌≤◌, ◌==◌, ◌&&◌, inl, inr, Bool, true, false, not, cond, if◌then◌else◌, List, [], ◌∷◌, filter, length, get_or, remove, Contains, refl, sym, ap, subst, ◌∙◌, arith}
use Rattle.std.proofs.lemmas.Bool.{eq-eqb, eqb-true}
use Rattle.relocate.proofs.RangeTests.{both_true, true_or_false, when_not}
use Rattle.space_raw.specs.Span.{Span}
use Rattle.host_map.specs.declared.placed.Owner.{Owner}
use Rattle.host_map.specs.declared.placed.Owner.TheVariants.{Record, Scratch}
use Rattle.host_map.specs.declared.placed.Placed.{Placed}
use Rattle.host_spaces.specs.Blocks.{Owns, block_of}
use Rattle.host_map.specs.Blocks.{disowned, owned, same_owner, with_block}
use Rattle.host_spaces.proofs.BlockPlacing.{block_from, with_place}
use Rattle.host_map.specs.Moves.{moved_to}
use Rattle.host_spaces.proofs.Orders.{AreSortedFrom, dropped, filter_in, filter_out, filter_removed, kept, same_index}

pub one_owner : (o q : Owner) → same_owner o q ≡ true → o ≡ q
one_owner (Record i k) (Record j l) is =
    let both = both_true (i == j) (k == l) is in let a = eqb-true i j both.0 in let b = eqb-true k l both.1 in
    ap (λ n. Record n k) a ∙ ap (λ n. Record j n) b
one_owner (Record i k) (Scratch h) is = absurd (let bad : false ≡ true = is in cc)
one_owner (Scratch g) (Record j l) is = absurd (let bad : false ≡ true = is in cc)
one_owner (Scratch g) (Scratch h) is = ap Scratch (eqb-true g h is)

both_are : (a b : Bool) → a ≡ true → b ≡ true → a && b ≡ true
both_are true true is it = refl
both_are true false is it = it
both_are false b is it = is

pub itself : (o : Owner) → same_owner o o ≡ true
itself (Record i k) = both_are (i == i) (k == k) (eq-eqb i i refl) (eq-eqb k k refl)
itself (Scratch g) = eq-eqb g g refl

pub not_same : (o q : Owner) → o ≢ q → same_owner o q ≡ false
not_same o q apart = when_not (same_owner o q) (λ is. apart (one_owner o q is))

-- ---- with one block more

pub owned_with : (from : ℕ) (b : Placed) (bs : List Placed) → AreSortedFrom from bs → owned b.owner (with_block b bs) ≡ with_block b (owned b.owner bs)
owned_with from b bs are = filter_in (λ c. same_owner b.owner c.owner) from b bs (itself b.owner) are

pub others_with : (o : Owner) (b : Placed) (bs : List Placed) → o ≢ b.owner → owned o (with_block b bs) ≡ owned o bs
others_with o b bs apart = filter_out (λ c. same_owner o c.owner) b bs (not_same o b.owner apart)

-- ---- where an owner's block stands

-- an element that passes the test
module _ (p : Placed → Bool) where
  head_or : (c : Placed) (cs fs : List Placed) (k : ℕ) (b d : Placed) → p c ≡ true → ((j : ℕ) → j < length fs → get_or fs j d ≡ b → (p b ≡ true) × Contains cs b)
      → k < length (c ∷ fs) → get_or (c ∷ fs) k d ≡ b → (p b ≡ true) × Contains (c ∷ cs) b
  head_or c cs fs zero b d is rest lt e = (subst (λ (x : Placed). p x ≡ true) e is, (zero, (let n : zero < suc (length cs) = omega arith in n), e))
  head_or c cs fs (suc k) b d is rest lt e =
      let at = rest k (omega arith) e in let inside = at.1.1 in (at.0, (suc at.1.0, (let n : suc at.1.0 < suc (length cs) = omega arith in n), at.1.2))

  pub passing : (bs : List Placed) (k : ℕ) (b d : Placed) → k < length (filter p bs) → get_or (filter p bs) k d ≡ b → (p b ≡ true) × Contains bs b
  passing [] k b d lt e = absurd (omega arith)
  passing (c ∷ cs) k b d lt e = elim (true_or_false (p c)) [
    | inl is ↦ head_or c cs (filter p cs) k b d is (λ j inside at. passing cs j b d inside at)
        (subst (λ xs. k < length xs) (kept p c cs is) lt) (subst (λ xs. get_or xs k d ≡ b) (kept p c cs is) e)
    | inr out ↦ let at = passing cs k b d (subst (λ xs. k < length xs) (dropped p c cs out) lt) (subst (λ xs. get_or xs k d ≡ b) (dropped p c cs out) e) in
        let inside = at.1.1 in (at.0, (suc at.1.0, (let n : suc at.1.0 < suc (length cs) = omega arith in n), at.1.2))
  ]

-- an owner's block that a piece is, and where it stands
pub record Stands (bs : List Placed) (owner : Owner) (s : Span) : Type 0 where
  pub align : ℕ
  pub index : ℕ
  pub inside : index < length bs
  pub is : get_or bs index (block_of owner align s) ≡ block_of owner align s

pub stands : (bs : List Placed) (owner : Owner) (s : Span) → Owns bs owner s → Stands bs owner s
stands bs owner s it =
    let at = passing (λ c. same_owner owner c.owner) bs it.1.0 (block_of owner it.0 s) (block_of owner it.0 s) it.1.1 it.1.2 in
    record { align = it.0; index = at.1.0; inside = at.1.1; is = at.1.2 }

-- ---- without it

module _ (p q : Placed → Bool) where
  pub filters : (bs : List Placed) → filter p (filter q bs) ≡ filter q (filter p bs)
  filters [] = refl
  filters (b ∷ bs) = elim (true_or_false (p b)) [
    | inl yes_p ↦ elim (true_or_false (q b)) [
      | inl yes_q ↦ ap (filter p) (kept q b bs yes_q) ∙ kept p b (filter q bs) yes_p ∙ ap (λ xs. b ∷ xs) (filters bs)
          ∙ sym (ap (filter q) (kept p b bs yes_p) ∙ kept q b (filter p bs) yes_q)
      | inr no_q ↦ ap (filter p) (dropped q b bs no_q) ∙ filters bs ∙ sym (ap (filter q) (kept p b bs yes_p) ∙ dropped q b (filter p bs) no_q)
    ]
    | inr no_p ↦ elim (true_or_false (q b)) [
      | inl yes_q ↦ ap (filter p) (kept q b bs yes_q) ∙ dropped p b (filter q bs) no_p ∙ filters bs ∙ sym (ap (filter q) (dropped p b bs no_p))
      | inr no_q ↦ ap (filter p) (dropped q b bs no_q) ∙ filters bs ∙ sym (ap (filter q) (dropped p b bs no_p))
    ]
  ]

-- what passes the test only once
module _ (p : Placed → Bool) where
  none_passes : (bs : List Placed) → length (filter p bs) ≤ 0 → filter (λ b. not (p b)) bs ≡ bs
  none_passes [] few = refl
  none_passes (b ∷ bs) few = elim (true_or_false (p b)) [
    | inl is ↦ let n = ap length (kept p b bs is) in absurd (omega arith)
    | inr out ↦ kept (λ c. not (p c)) b bs (ap not out) ∙ ap (λ xs. b ∷ xs) (none_passes bs (let n = ap length (dropped p b bs out) in omega arith))
  ]

  some_passes : (bs : List Placed) (k : ℕ) (d : Placed) → k < length bs → p (get_or bs k d) ≡ true → 1 ≤ length (filter p bs)
  some_passes [] k d lt is = absurd (omega arith)
  some_passes (b ∷ bs) zero d lt is = let n = ap length (kept p b bs is) in omega arith
  some_passes (b ∷ bs) (suc k) d lt is = elim (true_or_false (p b)) [
    | inl it ↦ let n = ap length (kept p b bs it) in omega arith
    | inr out ↦ let n = ap length (dropped p b bs out) in let rest = some_passes bs k d (omega arith) is in omega arith
  ]

  only_one : (bs : List Placed) (k : ℕ) (d : Placed) → k < length bs → p (get_or bs k d) ≡ true → length (filter p bs) ≤ 1 → remove bs k ≡ filter (λ b. not (p b)) bs
  only_one [] k d lt is few = absurd (omega arith)
  only_one (b ∷ bs) zero d lt is few =
      let n = ap length (kept p b bs is) in
      sym (dropped (λ c. not (p c)) b bs (ap not is) ∙ none_passes bs (omega arith))
  only_one (b ∷ bs) (suc k) d lt is few = elim (true_or_false (p b)) [
    | inl it ↦ let n = ap length (kept p b bs it) in let rest = some_passes bs k d (omega arith) is in absurd (omega arith)
    | inr out ↦ let n = ap length (dropped p b bs out) in
        ap (λ xs. b ∷ xs) (only_one bs k d (omega arith) is (omega arith)) ∙ sym (kept (λ c. not (p c)) b bs (ap not out))
  ]

-- its only block is owned
pub owns_one : (bs : List Placed) (owner : Owner) (align : ℕ) (s : Span) → owned owner bs ≡ block_of owner align s ∷ [] → Owns bs owner s
owns_one bs owner align s one =
    (align, subst (λ xs. Contains xs (block_of owner align s)) (sym one) (zero, (let n : zero < 1 = omega arith in n), refl))

-- its only block is taken out
pub removed_only : (bs : List Placed) (owner : Owner) (align : ℕ) (s : Span) (k : ℕ) → k < length bs → ((d : Placed) → (get_or bs k d).place ≡ s.place) → AreSortedFrom 0 bs
    → owned owner bs ≡ block_of owner align s ∷ [] → remove bs k ≡ disowned owner bs
removed_only bs owner align s k lt at are one =
    let w = stands bs owner s (owns_one bs owner align s one) in let d = block_of owner w.align s in
    let index : k ≡ w.index = same_index 0 bs k w.index d d are lt w.inside (at d ∙ sym (ap (λ (b : Placed). b.place) w.is)) in
    let is : same_owner owner (get_or bs k d).owner ≡ true = ap (λ n. same_owner owner (get_or bs n d).owner) index ∙ ap (λ (b : Placed). same_owner owner b.owner) w.is ∙ itself owner in
    let few : length (owned owner bs) ≤ 1 = (let n = ap length one in omega arith) in
    only_one (λ c. same_owner owner c.owner) bs k d lt is few

-- ---- at another place

moved_unseen : (o : Owner) (bs : List Placed) (k to : ℕ) (d : Placed) → k < length bs → same_owner o (get_or bs k d).owner ≡ false → owned o (moved_to bs k to) ≡ owned o bs
moved_unseen o [] k to d lt out = absurd (omega arith)
moved_unseen o (b ∷ bs) zero to d lt out =
    dropped (λ c. same_owner o c.owner) (record b { place = to }) bs out ∙ sym (dropped (λ c. same_owner o c.owner) b bs out)
moved_unseen o (b ∷ bs) (suc k) to d lt out = ap (λ xs. cond (same_owner o b.owner) (b ∷ xs) xs) (moved_unseen o bs k to d (omega arith) out)

owner_kept : (t : Bool) (b : Placed) (to : ℕ) → (if t then record b { place = to } else b).owner ≡ b.owner
owner_kept true b to = refl
owner_kept false b to = refl

owned_placed : (o : Owner) (from to : ℕ) (bs : List Placed) → owned o (with_place from to bs) ≡ with_place from to (owned o bs)
owned_placed o from to [] = refl
owned_placed o from to (b ∷ bs) = elim (true_or_false (same_owner o b.owner)) [
  | inl is ↦ kept (λ c. same_owner o c.owner) (block_from from to b) (with_place from to bs) (ap (same_owner o) (owner_kept (b.place == from) b to) ∙ is)
      ∙ ap (λ xs. block_from from to b ∷ xs) (owned_placed o from to bs) ∙ sym (ap (with_place from to) (kept (λ c. same_owner o c.owner) b bs is))
  | inr out ↦ dropped (λ c. same_owner o c.owner) (block_from from to b) (with_place from to bs) (ap (same_owner o) (owner_kept (b.place == from) b to) ∙ out)
      ∙ owned_placed o from to bs ∙ sym (ap (with_place from to) (dropped (λ c. same_owner o c.owner) b bs out))
]

-- its only block is elsewhere
pub owned_moved : (bs : List Placed) (b : Placed) (to : ℕ) → owned b.owner bs ≡ b ∷ [] → owned b.owner (with_place b.place to bs) ≡ record b { place = to } ∷ []
owned_moved bs b to one =
    owned_placed b.owner b.place to bs ∙ ap (with_place b.place to) one
    ∙ ap (λ t. (if t then record b { place = to } else b) ∷ []) (eq-eqb b.place b.place refl)

module _ (from : ℕ) (bs : List Placed) (are : AreSortedFrom from bs) (owner o : Owner) (s : Span) (it : Owns bs owner s) (k : ℕ) (d : Placed)
    (lt : k < length bs) (at : (get_or bs k d).place ≡ s.place) (apart : o ≢ owner) where
  where_it_is : k ≡ (stands bs owner s it).index
  where_it_is =
      let w = stands bs owner s it in
      same_index from bs k w.index d (block_of owner w.align s) are lt w.inside (at ∙ sym (ap (λ (b : Placed). b.place) w.is))

  not_its : same_owner o (get_or bs (stands bs owner s it).index (block_of owner (stands bs owner s it).align s)).owner ≡ false
  not_its = ap (λ (b : Placed). same_owner o b.owner) (stands bs owner s it).is ∙ not_same o owner apart

  pub others_without : owned o (remove bs k) ≡ owned o bs
  others_without =
      let w = stands bs owner s it in
      ap (λ n. owned o (remove bs n)) where_it_is
      ∙ filter_removed (λ c. same_owner o c.owner) bs w.index (block_of owner w.align s) w.inside not_its

  pub others_moved : (to : ℕ) → owned o (moved_to bs k to) ≡ owned o bs
  others_moved to =
      let w = stands bs owner s it in
      ap (λ n. owned o (moved_to bs n to)) where_it_is
      ∙ moved_unseen o bs w.index to (block_of owner w.align s) w.inside not_its

-- ---- without an owner's blocks

-- an owner without blocks
pub disowned_none : (owner : Owner) (bs : List Placed) → owned owner bs ≡ [] → disowned owner bs ≡ bs
disowned_none owner bs none = none_passes (λ c. same_owner owner c.owner) bs (let n = ap length none in omega arith)

pub owned_beside : (o q : Owner) (bs : List Placed) → o ≢ q → owned o (disowned q bs) ≡ owned o bs
owned_beside o q [] apart = refl
owned_beside o q (b ∷ bs) apart = elim (true_or_false (same_owner q b.owner)) [
  | inl is ↦ ap (owned o) (dropped (λ c. not (same_owner q c.owner)) b bs (ap not is)) ∙ owned_beside o q bs apart
      ∙ sym (dropped (λ c. same_owner o c.owner) b bs (ap (same_owner o) (sym (one_owner q b.owner is)) ∙ not_same o q apart))
  | inr out ↦ ap (owned o) (kept (λ c. not (same_owner q c.owner)) b bs (ap not out)) ∙ ap (λ xs. cond (same_owner o b.owner) (b ∷ xs) xs) (owned_beside o q bs apart)
]
