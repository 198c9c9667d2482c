-- Blocks of shared records under other names.
use Rattle.std.proofs.Common.{◌≡◌, ◌≢◌, ◌⊎◌, inl, inr, ℕ, zero, suc, ◌+◌, ◌<◌, ◌≤◌, ◌==◌, ◌&&◌, Bool, true, false, if◌then◌else◌, nat_eq, nat_lt, List, [], ◌∷◌, length, Option, Some, None, unwrap_or, refl, sym, ap, subst, ◌∙◌, add-one, arith}
use Rattle.std.specs.Option.{option_eq}
use Rattle.std.proofs.Math.ListN.{get_or-eq_default}
use Rattle.std.proofs.lemmas.Bool.{cases_eq, cases_lt, eq-eqb, eqb-true}
use Rattle.std.proofs.lemmas.Bool.Decides.{nat_tests}
use Rattle.std.proofs.lemmas.Option.{none-some}
use Rattle.mem_rec.specs.declared.MemRec.{MemRec}
use Rattle.mem_rec.specs.declared.Space.{Space}
use Rattle.mem_rec.specs.declared.Space.TheVariants.{Daram, Saram, External}
use Rattle.relocate.proofs.RangeTests.{true_or_false, when_not}
use Rattle.host_map.specs.declared.placed.Owner.{Owner}
use Rattle.host_map.specs.declared.placed.Owner.TheVariants.{Record, Scratch}
use Rattle.host_map.specs.declared.placed.Placed.{Placed}
use Rattle.host_map.specs.Blocks.{owned, renamed_blocks, renaming}
use Rattle.host_spaces.specs.Spaces.{SpaceState}
use Rattle.host_spaces.proofs.Renames.{renamed_alike, renamed_given, renamed_gone, renamed_same, renamed_twice}
use Rattle.host_spaces.specs.declared.spaces.Spaces.{Spaces}
use Rattle.host_spaces.specs.MemoryMap.{AreSameSpaces}
use Rattle.host_map.specs.MemoryMap.{MemoryMap, blocks_in, renamed}
use Rattle.host_map.specs.Creation.{handed_on, only, taken_over, sharer_at}
use Rattle.host_spaces.specs.Pieces.{AreSharable}
use Rattle.host_spaces.proofs.Maps.{maps_equal}

-- ---- memory maps

pub blocks_renamed : (new : Owner → Owner) (map : MemoryMap) (space : Space) → blocks_in (renamed new map) space ≡ renamed_blocks new (blocks_in map space)
blocks_renamed new map Daram = refl
blocks_renamed new map Saram = refl
blocks_renamed new map External = refl

-- names that are the same give the same memory map
pub alike : (new other : Owner → Owner) → ((o : Owner) → new o ≡ other o) → (map : MemoryMap) → renamed new map ≡ renamed other map
alike new other same map =
    maps_equal (renamed new map) (renamed other map)
    (renamed_alike new other same map.daram) (renamed_alike new other same map.saram) (renamed_alike new other same map.external)

-- one renaming after another
pub twice : (new then_ : Owner → Owner) (map : MemoryMap) → renamed then_ (renamed new map) ≡ renamed (λ o. then_ (new o)) map
twice new then_ map =
    maps_equal (renamed then_ (renamed new map)) (renamed (λ o. then_ (new o)) map)
    (renamed_twice new then_ map.daram) (renamed_twice new then_ map.saram) (renamed_twice new then_ map.external)

kept_blocks : (bs : List Placed) → renamed_blocks (λ o. o) bs ≡ bs
kept_blocks [] = refl
kept_blocks (b ∷ bs) = ap (λ xs. b ∷ xs) (kept_blocks bs)

-- where every owner keeps its name
pub kept_names : (new : Owner → Owner) → ((o : Owner) → new o ≡ o) → (map : MemoryMap) → map ≡ renamed new map
kept_names new same map =
    sym (alike new (λ o. o) same map
    ∙ maps_equal (renamed (λ o. o) map) map (kept_blocks map.daram) (kept_blocks map.saram) (kept_blocks map.external))

module _ (new : Owner → Owner) (map : MemoryMap) (space : Space) where
  pub gone_in : (o : Owner) → ((q : Owner) → new q ≢ o) → owned o (blocks_in (renamed new map) space) ≡ []
  gone_in o never = ap (owned o) (blocks_renamed new map space) ∙ renamed_gone new o never (blocks_in map space)

  pub same_in : (o : Owner) → new o ≡ o → ((q : Owner) → new q ≡ o → q ≡ o) → owned o (blocks_in (renamed new map) space) ≡ owned o (blocks_in map space)
  same_in o stays alone = ap (owned o) (blocks_renamed new map space) ∙ renamed_same new o stays alone (blocks_in map space)

  pub given_in : (p o : Owner) → new p ≡ o → ((q : Owner) → new q ≡ o → (q ≡ p) ⊎ (q ≡ o)) → owned o (blocks_in map space) ≡ []
      → owned o (blocks_in (renamed new map) space) ≡ renamed_blocks (λ _. o) (owned p (blocks_in map space))
  given_in p o named alone none = ap (owned o) (blocks_renamed new map space) ∙ renamed_given new p o named alone (blocks_in map space) none

-- ---- the records below a number

-- the sharers of the records below n alone
abbrev pub upto : ℕ → (ℕ → Option ℕ) → ℕ → Option ℕ
upto n sharers k = if nat_lt k n then sharers k else None

module _ (sharers : ℕ → Option ℕ) (n : ℕ) where
  pub upto_here : upto n sharers n ≡ None
  upto_here = let e : nat_lt n n ≡ false = grind (arith, nat_tests) in ap (λ t. if t then sharers n else None) e

  pub upto_next : upto (suc n) sharers n ≡ sharers n
  upto_next = let e : nat_lt n (suc n) ≡ true = grind (arith, nat_tests) in ap (λ t. if t then sharers n else None) e

  pub upto_other : (k : ℕ) → k ≢ n → upto (suc n) sharers k ≡ upto n sharers k
  upto_other k apart =
      let e : nat_lt k (suc n) ≡ nat_lt k n = elim (cases_lt k n) [
        | inl lt ↦ grind (arith, nat_tests)
        | inr ge ↦ let less : n < k = omega arith in grind (arith, nat_tests)
      ] in
      ap (λ t. if t then sharers k else None) e

pub upto_all : (sharers : List (Option ℕ)) (n k : ℕ) → length sharers ≤ n → upto n (sharer_at sharers) k ≡ sharer_at sharers k
upto_all sharers n k le = elim (cases_lt k n) [
  | inl lt ↦ let e : nat_lt k n ≡ true = grind (arith, nat_tests) in ap (λ t. if t then sharer_at sharers k else None) e
  | inr ge ↦ let e : nat_lt k n ≡ false = grind (arith, nat_tests) in
      ap (λ t. if t then sharer_at sharers k else None) e ∙ sym (get_or-eq_default sharers None (omega arith))
]

pub upto_none : (sharers : ℕ → Option ℕ) (k : ℕ) → upto 0 sharers k ≡ None
upto_none sharers k = let e : nat_lt k 0 ≡ false = grind (arith, nat_tests) in ap (λ t. if t then sharers k else None) e

-- where nothing is shared
pub no_sharers : (table : List MemRec) → AreSharable table (sharer_at (None ∷ None ∷ None ∷ None ∷ []))
no_sharers table zero j e = absurd (none-some j e)
no_sharers table (suc zero) j e = absurd (none-some j e)
no_sharers table (suc (suc zero)) j e = absurd (none-some j e)
no_sharers table (suc (suc (suc zero))) j e = absurd (none-some j e)
no_sharers table (suc (suc (suc (suc k)))) j e = absurd (none-some j e)

-- ---- names by record and instance

-- the instance that owns record k afterwards
abbrev pub taker : Option ℕ → ℕ → ℕ → ℕ
taker sharer i owner = if option_eq nat_eq (Some owner) sharer && nat_lt i owner then i else owner

abbrev pub heir : Option ℕ → ℕ → ℕ → ℕ
heir sharer i owner = if owner == i then unwrap_or sharer i else owner

chosen : (t : Bool) (i j k : ℕ) → (if t then Record i k else Record j k) ≡ Record (if t then i else j) k
chosen true i j k = refl
chosen false i j k = refl

module _ (sharers : ℕ → Option ℕ) (i : ℕ) where
  pub taken_is : (owner k : ℕ) → taken_over sharers i (Record owner k) ≡ Record (taker (sharers k) i owner) k
  taken_is owner k = chosen (option_eq nat_eq (Some owner) (sharers k) && nat_lt i owner) i owner k

  pub handed_is : (owner k : ℕ) → handed_on sharers i (Record owner k) ≡ Record (heir (sharers k) i owner) k
  handed_is owner k = chosen (owner == i) (unwrap_or (sharers k) i) owner k

with_true : (t : Bool) → (t && true) ≡ t
with_true true = refl
with_true false = refl

with_false : (t : Bool) → (t && false) ≡ false
with_false true = refl
with_false false = refl

-- one record's owner `from` becomes `to`
renamed_here : (k from to owner : ℕ) → renaming (Record from k) (Record to k) (Record owner k) ≡ Record (if from == owner then to else owner) k
renamed_here k from to owner =
    ap (λ t. if (from == owner) && t then Record to k else Record owner k) (eq-eqb k k refl)
    ∙ ap (λ t. if t then Record to k else Record owner k) (with_true (from == owner))
    ∙ chosen (from == owner) to owner k

renamed_there : (n k from to owner : ℕ) → k ≢ n → renaming (Record from n) (Record to n) (Record owner k) ≡ Record owner k
renamed_there n k from to owner apart =
    let e : (n == k) ≡ false = when_not (n == k) (λ is. apart (sym (eqb-true n k is))) in
    ap (λ t. if (from == owner) && t then Record to n else Record owner k) e
    ∙ ap (λ t. if t then Record to n else Record owner k) (with_false (from == owner))

heir_none : (i owner : ℕ) → heir None i owner ≡ owner
heir_none i owner = elim (true_or_false (owner == i)) [
  | inl is ↦ ap (λ t. if t then i else owner) is ∙ sym (eqb-true owner i is)
  | inr out ↦ ap (λ t. if t then i else owner) out
]

turned : (a b : ℕ) → (a == b) ≡ (b == a)
turned a b = elim (cases_eq a b) [
  | inl e ↦ ap (λ x. x == b) e ∙ ap (λ x. b == x) (sym e)
  | inr apart ↦ when_not (a == b) (λ is. apart (eqb-true a b is)) ∙ sym (when_not (b == a) (λ is. apart (sym (eqb-true b a is))))
]

taker_some : (i sharer owner : ℕ) → i < sharer → taker (Some sharer) i owner ≡ (if sharer == owner then i else owner)
taker_some i sharer owner lt = elim (true_or_false (owner == sharer)) [
  | inl is ↦
      let less : nat_lt i owner ≡ true = (let e = eqb-true owner sharer is in let l : i < owner = omega arith in grind (arith, nat_tests)) in
      ap (λ t. if t && nat_lt i owner then i else owner) is ∙ ap (λ t. if t then i else owner) less
      ∙ sym (ap (λ t. if t then i else owner) (turned sharer owner ∙ is))
  | inr out ↦ ap (λ t. if t && nat_lt i owner then i else owner) out ∙ sym (ap (λ t. if t then i else owner) (turned sharer owner ∙ out))
]

-- a sharer that isn't greater stays the owner
taker_low : (i sharer owner : ℕ) → sharer ≤ i → taker (Some sharer) i owner ≡ owner
taker_low i sharer owner le = elim (true_or_false (owner == sharer)) [
  | inl is ↦
      let more : nat_lt i owner ≡ false = (let e = eqb-true owner sharer is in let l : owner ≤ i = omega arith in grind (arith, nat_tests)) in
      ap (λ t. if t && nat_lt i owner then i else owner) is ∙ ap (λ t. if t then i else owner) more
  | inr out ↦ ap (λ t. if t && nat_lt i owner then i else owner) out
]

-- a record without a sharer, or with a lesser one
abbrev pub IsLow : ℕ → Option ℕ → Type 0
IsLow i t = (t ≡ None) ⊎ ((sharer : ℕ) × (t ≡ Some sharer) × (sharer ≤ i))

taker_stays : (i owner : ℕ) (t : Option ℕ) → IsLow i t → taker t i owner ≡ owner
taker_stays i owner t (inl none) = ap (λ o. taker o i owner) none
taker_stays i owner t (inr low) = ap (λ o. taker o i owner) low.1 ∙ taker_low i low.0 owner low.2

heir_some : (i sharer owner : ℕ) → heir (Some sharer) i owner ≡ (if i == owner then sharer else owner)
heir_some i sharer owner = ap (λ t. if t then sharer else owner) (turned owner i)

-- ---- one record

module _ (k : ℕ) (sharer : Option ℕ) where
  only_here : only k sharer k ≡ sharer
  only_here = ap (λ t. if t then sharer else None) (eq-eqb k k refl)

  only_there : (l : ℕ) → l ≢ k → only k sharer l ≡ None
  only_there l apart = ap (λ t. if t then sharer else None) (when_not (l == k) (λ is. apart (eqb-true l k is)))

module _ (i k : ℕ) (sharer : Option ℕ) where
  taken_here : (owner : ℕ) → taken_over (only k sharer) i (Record owner k) ≡ Record (taker sharer i owner) k
  taken_here owner = taken_is (only k sharer) i owner k ∙ ap (λ t. Record (taker t i owner) k) (only_here k sharer)

  taken_there : (owner l : ℕ) → l ≢ k → taken_over (only k sharer) i (Record owner l) ≡ Record owner l
  taken_there owner l apart = taken_is (only k sharer) i owner l ∙ ap (λ t. Record (taker t i owner) l) (only_there k sharer l apart)

  handed_here : (owner : ℕ) → handed_on (only k sharer) i (Record owner k) ≡ Record (heir sharer i owner) k
  handed_here owner = handed_is (only k sharer) i owner k ∙ ap (λ t. Record (heir t i owner) k) (only_here k sharer)

  handed_there : (owner l : ℕ) → l ≢ k → handed_on (only k sharer) i (Record owner l) ≡ Record owner l
  handed_there owner l apart =
      handed_is (only k sharer) i owner l ∙ ap (λ t. Record (heir t i owner) l) (only_there k sharer l apart) ∙ ap (λ x. Record x l) (heir_none i owner)

  -- a record without a sharer, or with a lesser one
  pub taken_stays : IsLow i sharer → (o : Owner) → taken_over (only k sharer) i o ≡ o
  taken_stays low (Scratch s) = refl
  taken_stays low (Record owner l) = elim (cases_eq l k) [
    | inl e ↦
        let P : ℕ → Type 0 = λ m. taken_over (only k sharer) i (Record owner m) ≡ Record owner m in
        subst P (sym e) (taken_here owner ∙ ap (λ x. Record x k) (taker_stays i owner sharer low))
    | inr apart ↦ taken_there owner l apart
  ]

  pub handed_stays : sharer ≡ None → (o : Owner) → handed_on (only k sharer) i o ≡ o
  handed_stays none (Scratch s) = refl
  handed_stays none (Record owner l) = elim (cases_eq l k) [
    | inl e ↦
        let P : ℕ → Type 0 = λ m. handed_on (only k sharer) i (Record owner m) ≡ Record owner m in
        subst P (sym e) (handed_here owner ∙ ap (λ t. Record (heir t i owner) k) none ∙ ap (λ x. Record x k) (heir_none i owner))
    | inr apart ↦ handed_there owner l apart
  ]

module _ (i k sharer : ℕ) where
  pub taken_one : i < sharer → (o : Owner) → renaming (Record sharer k) (Record i k) o ≡ taken_over (only k (Some sharer)) i o
  taken_one lt (Scratch s) = refl
  taken_one lt (Record owner l) = elim (cases_eq l k) [
    | inl e ↦
        let P : ℕ → Type 0 = λ m. renaming (Record sharer k) (Record i k) (Record owner m) ≡ taken_over (only k (Some sharer)) i (Record owner m) in
        subst P (sym e) (renamed_here k sharer i owner ∙ ap (λ x. Record x k) (sym (taker_some i sharer owner lt)) ∙ sym (taken_here i k (Some sharer) owner))
    | inr apart ↦ renamed_there k l sharer i owner apart ∙ sym (taken_there i k (Some sharer) owner l apart)
  ]

  pub handed_one : (o : Owner) → renaming (Record i k) (Record sharer k) o ≡ handed_on (only k (Some sharer)) i o
  handed_one (Scratch s) = refl
  handed_one (Record owner l) = elim (cases_eq l k) [
    | inl e ↦
        let P : ℕ → Type 0 = λ m. renaming (Record i k) (Record sharer k) (Record owner m) ≡ handed_on (only k (Some sharer)) i (Record owner m) in
        subst P (sym e) (renamed_here k i sharer owner ∙ ap (λ x. Record x k) (sym (heir_some i sharer owner)) ∙ sym (handed_here i k (Some sharer) owner))
    | inr apart ↦ renamed_there k l i sharer owner apart ∙ sym (handed_there i k (Some sharer) owner l apart)
  ]

-- ---- one record after the other

module _ (sharers : ℕ → Option ℕ) (i n : ℕ) where
  pub taken_next : (o : Owner) → taken_over (only n (sharers n)) i (taken_over (upto n sharers) i o) ≡ taken_over (upto (suc n) sharers) i o
  taken_next (Scratch s) = refl
  taken_next (Record owner k) = elim (cases_eq k n) [
    | inl e ↦
        let P : ℕ → Type 0 = λ m. taken_over (only n (sharers n)) i (taken_over (upto n sharers) i (Record owner m)) ≡ taken_over (upto (suc n) sharers) i (Record owner m) in
        subst P (sym e)
        (ap (taken_over (only n (sharers n)) i) (taken_is (upto n sharers) i owner n ∙ ap (λ t. Record (taker t i owner) n) (upto_here sharers n))
        ∙ taken_here i n (sharers n) owner
        ∙ sym (taken_is (upto (suc n) sharers) i owner n ∙ ap (λ t. Record (taker t i owner) n) (upto_next sharers n)))
    | inr apart ↦
        ap (taken_over (only n (sharers n)) i) (taken_is (upto n sharers) i owner k)
        ∙ taken_there i n (sharers n) (taker (upto n sharers k) i owner) k apart
        ∙ sym (taken_is (upto (suc n) sharers) i owner k ∙ ap (λ t. Record (taker t i owner) k) (upto_other sharers n k apart))
  ]

  pub handed_next : (o : Owner) → handed_on (only n (sharers n)) i (handed_on (upto n sharers) i o) ≡ handed_on (upto (suc n) sharers) i o
  handed_next (Scratch s) = refl
  handed_next (Record owner k) = elim (cases_eq k n) [
    | inl e ↦
        let P : ℕ → Type 0 = λ m. handed_on (only n (sharers n)) i (handed_on (upto n sharers) i (Record owner m)) ≡ handed_on (upto (suc n) sharers) i (Record owner m) in
        subst P (sym e)
        (ap (handed_on (only n (sharers n)) i)
        (handed_is (upto n sharers) i owner n ∙ ap (λ t. Record (heir t i owner) n) (upto_here sharers n) ∙ ap (λ x. Record x n) (heir_none i owner))
        ∙ handed_here i n (sharers n) owner
        ∙ sym (handed_is (upto (suc n) sharers) i owner n ∙ ap (λ t. Record (heir t i owner) n) (upto_next sharers n)))
    | inr apart ↦
        ap (handed_on (only n (sharers n)) i) (handed_is (upto n sharers) i owner k)
        ∙ handed_there i n (sharers n) (heir (upto n sharers k) i owner) k apart
        ∙ sym (handed_is (upto (suc n) sharers) i owner k ∙ ap (λ t. Record (heir t i owner) k) (upto_other sharers n k apart))
  ]

-- where no record has a sharer
pub taken_none : (sharers : ℕ → Option ℕ) (i : ℕ) → ((k : ℕ) → sharers k ≡ None) → (o : Owner) → taken_over sharers i o ≡ o
taken_none sharers i none (Scratch s) = refl
taken_none sharers i none (Record owner k) = taken_is sharers i owner k ∙ ap (λ t. Record (taker t i owner) k) (none k)

pub handed_none : (sharers : ℕ → Option ℕ) (i : ℕ) → ((k : ℕ) → sharers k ≡ None) → (o : Owner) → handed_on sharers i o ≡ o
handed_none sharers i none (Scratch s) = refl
handed_none sharers i none (Record owner k) = handed_is sharers i owner k ∙ ap (λ t. Record (heir t i owner) k) (none k) ∙ ap (λ x. Record x k) (heir_none i owner)

-- sharers that are the same
pub taken_same : (sharers others : ℕ → Option ℕ) (i : ℕ) → ((k : ℕ) → sharers k ≡ others k) → (o : Owner) → taken_over sharers i o ≡ taken_over others i o
taken_same sharers others i same (Scratch s) = refl
taken_same sharers others i same (Record owner k) = ap (λ t. if option_eq nat_eq (Some owner) t && nat_lt i owner then Record i k else Record owner k) (same k)

pub handed_same : (sharers others : ℕ → Option ℕ) (i : ℕ) → ((k : ℕ) → sharers k ≡ others k) → (o : Owner) → handed_on sharers i o ≡ handed_on others i o
handed_same sharers others i same (Scratch s) = refl
handed_same sharers others i same (Record owner k) = ap (λ t. if owner == i then Record (unwrap_or t i) k else Record owner k) (same k)

-- ---- all records

module _ (sharers : ℕ → Option ℕ) (i n m : ℕ) (t : Option ℕ) (first mid last : MemoryMap) (number : m ≡ n) (there : t ≡ sharers n) where
  pub taken_more : mid ≡ renamed (taken_over (upto n sharers) i) first → last ≡ renamed (taken_over (only m t) i) mid
      → last ≡ renamed (taken_over (upto (n + 1) sharers) i) first
  taken_more before after =
      after
      ∙ ap (λ l. renamed (taken_over (only l t) i) mid) number ∙ ap (λ o. renamed (taken_over (only n o) i) mid) there
      ∙ ap (renamed (taken_over (only n (sharers n)) i)) before
      ∙ twice (taken_over (upto n sharers) i) (taken_over (only n (sharers n)) i) first
      ∙ alike (λ o. taken_over (only n (sharers n)) i (taken_over (upto n sharers) i o)) (taken_over (upto (suc n) sharers) i) (taken_next sharers i n) first
      ∙ ap (λ l. renamed (taken_over (upto l sharers) i) first) (sym (add-one n))

  pub handed_more : mid ≡ renamed (handed_on (upto n sharers) i) first → last ≡ renamed (handed_on (only m t) i) mid
      → last ≡ renamed (handed_on (upto (n + 1) sharers) i) first
  handed_more before after =
      after
      ∙ ap (λ l. renamed (handed_on (only l t) i) mid) number ∙ ap (λ o. renamed (handed_on (only n o) i) mid) there
      ∙ ap (renamed (handed_on (only n (sharers n)) i)) before
      ∙ twice (handed_on (upto n sharers) i) (handed_on (only n (sharers n)) i) first
      ∙ alike (λ o. handed_on (only n (sharers n)) i (handed_on (upto n sharers) i o)) (handed_on (upto (suc n) sharers) i) (handed_next sharers i n) first
      ∙ ap (λ l. renamed (handed_on (upto l sharers) i) first) (sym (add-one n))

module _ (sharers : List (Option ℕ)) (i : ℕ) (first last : MemoryMap) where
  pub taken_first : first ≡ renamed (taken_over (upto 0 (sharer_at sharers)) i) first
  taken_first = kept_names (taken_over (upto 0 (sharer_at sharers)) i) (taken_none (upto 0 (sharer_at sharers)) i (upto_none (sharer_at sharers))) first

  pub handed_first : first ≡ renamed (handed_on (upto 0 (sharer_at sharers)) i) first
  handed_first = kept_names (handed_on (upto 0 (sharer_at sharers)) i) (handed_none (upto 0 (sharer_at sharers)) i (upto_none (sharer_at sharers))) first

  pub taken_all : (n : ℕ) → length sharers ≤ n → last ≡ renamed (taken_over (upto n (sharer_at sharers)) i) first → last ≡ renamed (taken_over (sharer_at sharers) i) first
  taken_all n le is =
      is ∙ alike (taken_over (upto n (sharer_at sharers)) i) (taken_over (sharer_at sharers) i)
      (taken_same (upto n (sharer_at sharers)) (sharer_at sharers) i (λ k. upto_all sharers n k le)) first

  pub handed_all : (n : ℕ) → length sharers ≤ n → last ≡ renamed (handed_on (upto n (sharer_at sharers)) i) first → last ≡ renamed (handed_on (sharer_at sharers) i) first
  handed_all n le is =
      is ∙ alike (handed_on (upto n (sharer_at sharers)) i) (handed_on (sharer_at sharers) i)
      (handed_same (upto n (sharer_at sharers)) (sharer_at sharers) i (λ k. upto_all sharers n k le)) first

-- ---- the three spaces

abbrev pub Stays : SpaceState → SpaceState → Type 0
Stays old new = (new.region ≡ old.region) × (new.slid ≡ old.slid)

pub same_each : (old new : Spaces) → Stays old.daram new.daram → Stays old.saram new.saram → Stays old.external new.external → AreSameSpaces old new
same_each old new daram saram external Daram = record { region = daram.0; slid = daram.1 }
same_each old new daram saram external Saram = record { region = saram.0; slid = saram.1 }
same_each old new daram saram external External = record { region = external.0; slid = external.1 }

pub same_itself : (spaces : Spaces) → AreSameSpaces spaces spaces
same_itself spaces space = record { region = refl; slid = refl }

-- ---- whose name each gets

abbrev number_in : Owner → ℕ
number_in (Record i k) = k
number_in (Scratch g) = 0

abbrev instance_in : Owner → ℕ
instance_in (Record i k) = i
instance_in (Scratch g) = 0

no_scratch : (g i k : ℕ) → Scratch g ≢ Record i k
no_scratch g i k e = let bad : Scratch g ≡ Record i k = e in cc

taker_choice : (t : Option ℕ) (i owner : ℕ) → ((t ≡ Some owner) × (i < owner) × (taker t i owner ≡ i)) ⊎ (taker t i owner ≡ owner)
taker_choice None i owner = inr refl
taker_choice (Some sharer) i owner = elim (cases_lt i sharer) [
  | inl lt ↦ elim (cases_eq sharer owner) [
    | inl e ↦ inl (ap Some e, (let l : i < owner = omega arith in l), taker_some i sharer owner lt ∙ ap (λ t. if t then i else owner) (eq-eqb sharer owner e))
    | inr apart ↦ inr (taker_some i sharer owner lt ∙ ap (λ t. if t then i else owner) (when_not (sharer == owner) (λ is. apart (eqb-true sharer owner is))))
  ]
  | inr ge ↦ inr (taker_low i sharer owner ge)
]

heir_choice : (t : Option ℕ) (i owner : ℕ) → ((owner ≡ i) × (heir t i owner ≡ unwrap_or t i)) ⊎ ((owner ≢ i) × (heir t i owner ≡ owner))
heir_choice t i owner = elim (cases_eq owner i) [
  | inl e ↦ inl (e, ap (λ b. if b then unwrap_or t i else owner) (eq-eqb owner i e))
  | inr apart ↦ inr (apart, ap (λ b. if b then unwrap_or t i else owner) (when_not (owner == i) (λ is. apart (eqb-true owner i is))))
]

module _ (sharers : ℕ → Option ℕ) (i : ℕ) where
  pub takes : (k sharer : ℕ) → sharers k ≡ Some sharer → i < sharer → taken_over sharers i (Record sharer k) ≡ Record i k
  takes k sharer is lt =
      taken_is sharers i sharer k ∙ ap (λ t. Record (taker t i sharer) k) is ∙ ap (λ x. Record x k) (taker_some i sharer sharer lt)
      ∙ ap (λ t. Record (if t then i else sharer) k) (eq-eqb sharer sharer refl)

  -- who has this name afterwards
  taken_by : (owner l j k : ℕ) → taken_over sharers i (Record owner l) ≡ Record j k
      → (l ≡ k) × (((sharers l ≡ Some owner) × (i < owner) × (i ≡ j)) ⊎ (owner ≡ j))
  taken_by owner l j k e =
      let is = sym (taken_is sharers i owner l) ∙ e in (
        ap number_in is,
        elim (taker_choice (sharers l) i owner) [
          | inl it ↦ inl (it.0, it.1, sym it.2 ∙ ap instance_in is)
          | inr it ↦ inr (sym it ∙ ap instance_in is)
        ],
      )

  pub only_takes : (k sharer : ℕ) → sharers k ≡ Some sharer → (q : Owner) → taken_over sharers i q ≡ Record i k → (q ≡ Record sharer k) ⊎ (q ≡ Record i k)
  only_takes k sharer is (Scratch g) e = absurd (no_scratch g i k e)
  only_takes k sharer is (Record owner l) e =
      let by = taken_by owner l i k e in
      elim by.1 [
        | inl it ↦ let same : Some owner ≡ Some sharer = sym it.0 ∙ ap sharers by.0 ∙ is in let one : owner ≡ sharer = cc in
            inl (ap (λ n. Record n l) one ∙ ap (λ n. Record sharer n) by.0)
        | inr it ↦ inr (ap (λ n. Record n l) it ∙ ap (λ n. Record i n) by.0)
      ]

  pub never_taken : (k sharer : ℕ) → sharers k ≡ Some sharer → i < sharer → (q : Owner) → taken_over sharers i q ≢ Record sharer k
  never_taken k sharer is lt (Scratch g) e = no_scratch g sharer k e
  never_taken k sharer is lt (Record owner l) e =
      let by = taken_by owner l sharer k e in
      elim by.1 [
        | inl it ↦ let same = it.2 in omega arith
        | inr it ↦ let here : i ≡ sharer = sym (ap instance_in (sym e ∙ ap (λ n. taken_over sharers i (Record n l)) it ∙ ap (λ n. taken_over sharers i (Record sharer n)) by.0 ∙ takes k sharer is lt)) in
            omega arith
      ]

  pub taken_other : (o : Owner) → ((k sharer : ℕ) → sharers k ≡ Some sharer → i < sharer → (o ≢ Record i k) × (o ≢ Record sharer k)) → taken_over sharers i o ≡ o
  taken_other (Scratch g) apart = refl
  taken_other (Record owner k) apart = elim (taker_choice (sharers k) i owner) [
    | inl it ↦ absurd ((apart k owner it.0 it.1).1 refl)
    | inr it ↦ taken_is sharers i owner k ∙ ap (λ n. Record n k) it
  ]

  pub only_other : (o : Owner) → ((k sharer : ℕ) → sharers k ≡ Some sharer → i < sharer → (o ≢ Record i k) × (o ≢ Record sharer k)) → (q : Owner) → taken_over sharers i q ≡ o → q ≡ o
  only_other o apart (Scratch g) e = e
  only_other o apart (Record owner l) e = elim (taker_choice (sharers l) i owner) [
    | inl it ↦ absurd ((apart l owner it.0 it.1).0 (sym e ∙ taken_is sharers i owner l ∙ ap (λ n. Record n l) it.2))
    | inr it ↦ sym (ap (λ n. Record n l) it) ∙ sym (taken_is sharers i owner l) ∙ e
  ]

  pub hands : (k sharer : ℕ) → sharers k ≡ Some sharer → handed_on sharers i (Record i k) ≡ Record sharer k
  hands k sharer is =
      handed_is sharers i i k ∙ ap (λ t. Record (heir t i i) k) is ∙ ap (λ t. Record (if t then sharer else i) k) (eq-eqb i i refl)

  handed_by : (owner l j k : ℕ) → handed_on sharers i (Record owner l) ≡ Record j k
      → (l ≡ k) × (((owner ≡ i) × (unwrap_or (sharers l) i ≡ j)) ⊎ ((owner ≢ i) × (owner ≡ j)))
  handed_by owner l j k e =
      let is = sym (handed_is sharers i owner l) ∙ e in (
        ap number_in is,
        elim (heir_choice (sharers l) i owner) [
          | inl it ↦ inl (it.0, sym it.1 ∙ ap instance_in is)
          | inr it ↦ inr (it.0, sym it.1 ∙ ap instance_in is)
        ],
      )

  pub only_hands : (k sharer : ℕ) → sharers k ≡ Some sharer → (q : Owner) → handed_on sharers i q ≡ Record sharer k → (q ≡ Record i k) ⊎ (q ≡ Record sharer k)
  only_hands k sharer is (Scratch g) e = absurd (no_scratch g sharer k e)
  only_hands k sharer is (Record owner l) e =
      let by = handed_by owner l sharer k e in
      elim by.1 [
        | inl it ↦ inl (ap (λ n. Record n l) it.0 ∙ ap (λ n. Record i n) by.0)
        | inr it ↦ inr (ap (λ n. Record n l) it.1 ∙ ap (λ n. Record sharer n) by.0)
      ]

  pub never_handed : (k sharer : ℕ) → sharers k ≡ Some sharer → sharer ≢ i → (q : Owner) → handed_on sharers i q ≢ Record i k
  never_handed k sharer is apart (Scratch g) e = no_scratch g i k e
  never_handed k sharer is apart (Record owner l) e =
      let by = handed_by owner l i k e in
      elim by.1 [
        | inl it ↦ apart (sym (ap (λ t. unwrap_or t i) (ap sharers by.0 ∙ is)) ∙ it.1)
        | inr it ↦ it.0 it.1
      ]

  heir_other : (t : Option ℕ) (owner k : ℕ) → sharers k ≡ t → ((sharer : ℕ) → sharers k ≡ Some sharer → Record owner k ≢ Record i k) → heir t i owner ≡ owner
  heir_other None owner k is apart = heir_none i owner
  heir_other (Some sharer) owner k is apart = elim (heir_choice (Some sharer) i owner) [
    | inl it ↦ absurd (apart sharer is (ap (λ n. Record n k) it.0))
    | inr it ↦ it.1
  ]

  pub handed_other : (o : Owner) → ((k sharer : ℕ) → sharers k ≡ Some sharer → (o ≢ Record i k) × (o ≢ Record sharer k)) → handed_on sharers i o ≡ o
  handed_other (Scratch g) apart = refl
  handed_other (Record owner k) apart = handed_is sharers i owner k ∙ ap (λ n. Record n k) (heir_other (sharers k) owner k refl (λ sharer is. (apart k sharer is).0))

  kept_name : (o : Owner) (owner l : ℕ) (t : Option ℕ) → sharers l ≡ t → ((sharer : ℕ) → sharers l ≡ Some sharer → (o ≢ Record i l) × (o ≢ Record sharer l))
      → Record (heir t i owner) l ≡ o → Record owner l ≡ o
  kept_name o owner l None is apart e = sym (ap (λ n. Record n l) (heir_none i owner)) ∙ e
  kept_name o owner l (Some sharer) is apart e = elim (heir_choice (Some sharer) i owner) [
    | inl it ↦ absurd ((apart sharer is).1 (sym e ∙ ap (λ n. Record n l) it.1))
    | inr it ↦ sym (ap (λ n. Record n l) it.1) ∙ e
  ]

  pub only_handed_other : (o : Owner) → ((k sharer : ℕ) → sharers k ≡ Some sharer → (o ≢ Record i k) × (o ≢ Record sharer k)) → (q : Owner) → handed_on sharers i q ≡ o → q ≡ o
  only_handed_other o apart (Scratch g) e = e
  only_handed_other o apart (Record owner l) e = kept_name o owner l (sharers l) refl (apart l) (sym (handed_is sharers i owner l) ∙ e)

-- ---- the blocks of each owner

module _ (sharers : ℕ → Option ℕ) (i : ℕ) (old new : MemoryMap) (is : new ≡ renamed (taken_over sharers i) old) where
  taken_owned : (o : Owner) (space : Space) → owned o (blocks_in new space) ≡ owned o (blocks_in (renamed (taken_over sharers i) old) space)
  taken_owned o space = ap (λ (p : MemoryMap). owned o (blocks_in p space)) is

  pub taken_blocks : (k sharer : ℕ) (space : Space) → sharers k ≡ Some sharer → i < sharer → owned (Record i k) (blocks_in old space) ≡ []
      → owned (Record i k) (blocks_in new space) ≡ renamed_blocks (λ _. Record i k) (owned (Record sharer k) (blocks_in old space))
  taken_blocks k sharer space there lt none =
      taken_owned (Record i k) space
      ∙ given_in (taken_over sharers i) old space (Record sharer k) (Record i k) (takes sharers i k sharer there lt) (only_takes sharers i k sharer there) none

  pub left_blocks : (k sharer : ℕ) (space : Space) → sharers k ≡ Some sharer → i < sharer → owned (Record sharer k) (blocks_in new space) ≡ []
  left_blocks k sharer space there lt = taken_owned (Record sharer k) space ∙ gone_in (taken_over sharers i) old space (Record sharer k) (never_taken sharers i k sharer there lt)

  pub other_blocks : (o : Owner) (space : Space) → ((k sharer : ℕ) → sharers k ≡ Some sharer → i < sharer → (o ≢ Record i k) × (o ≢ Record sharer k))
      → owned o (blocks_in new space) ≡ owned o (blocks_in old space)
  other_blocks o space apart = taken_owned o space ∙ same_in (taken_over sharers i) old space o (taken_other sharers i o apart) (only_other sharers i o apart)

module _ (sharers : ℕ → Option ℕ) (i : ℕ) (old new : MemoryMap) (is : new ≡ renamed (handed_on sharers i) old) where
  handed_owned : (o : Owner) (space : Space) → owned o (blocks_in new space) ≡ owned o (blocks_in (renamed (handed_on sharers i) old) space)
  handed_owned o space = ap (λ (p : MemoryMap). owned o (blocks_in p space)) is

  pub heir_blocks : (k sharer : ℕ) (space : Space) → sharers k ≡ Some sharer → owned (Record sharer k) (blocks_in old space) ≡ []
      → owned (Record sharer k) (blocks_in new space) ≡ renamed_blocks (λ _. Record sharer k) (owned (Record i k) (blocks_in old space))
  heir_blocks k sharer space there none =
      handed_owned (Record sharer k) space
      ∙ given_in (handed_on sharers i) old space (Record i k) (Record sharer k) (hands sharers i k sharer there) (only_hands sharers i k sharer there) none

  pub gone_blocks : (k sharer : ℕ) (space : Space) → sharers k ≡ Some sharer → sharer ≢ i → owned (Record i k) (blocks_in new space) ≡ []
  gone_blocks k sharer space there apart = handed_owned (Record i k) space ∙ gone_in (handed_on sharers i) old space (Record i k) (never_handed sharers i k sharer there apart)

  pub kept_blocks_of : (o : Owner) (space : Space) → ((k sharer : ℕ) → sharers k ≡ Some sharer → (o ≢ Record i k) × (o ≢ Record sharer k))
      → owned o (blocks_in new space) ≡ owned o (blocks_in old space)
  kept_blocks_of o space apart = handed_owned o space ∙ same_in (handed_on sharers i) old space o (handed_other sharers i o apart) (only_handed_other sharers i o apart)
