-- One block more is placed.
use Rattle.std.proofs.Common.{◌≡◌, ◌≢◌, ◌⊎◌, inl, inr, ℕ, zero, suc, ◌+◌, ◌<◌, ◌≤◌, ℤ, true, if◌then◌else◌, List, [], ◌∷◌, length, get_or, drop, Option, Some, None, Contains, refl, sym, ap, subst, ◌∙◌, arith}
use Rattle.std.specs.Prelude.{Result, Ok, Err, OnOk}
use Rattle.std.specs.Option.{option_map_or}
use Rattle.std.proofs.lemmas.Bool.{cases_eq, cases_lt}
use Rattle.std.proofs.lemmas.List.Elements.{All-nil}
use Rattle.std.proofs.Math.Seq.{drop-cons}
use Rattle.mem_rec.specs.declared.Space.{Space}
use Rattle.mem_rec.specs.declared.Space.TheVariants.{Daram, Saram, External}
use Rattle.mem_rec.specs.Records.{same_space}
use Rattle.space_raw.specs.Span.{Span}
use Rattle.relocate.specs.Places.{least_place, placed_size}
use Rattle.ialg.specs.Records.{ArePoison}
use Rattle.record_loans.specs.Pieces.{piece_words}
use Rattle.host_map.specs.declared.TheConstants.{SPACE_BLOCKS}
use Rattle.host_map.specs.declared.placed.Owner.{Owner}
use Rattle.host_map.specs.declared.placed.Placed.{Placed}
use Rattle.host_spaces.specs.Blocks.{Owns, block_of}
use Rattle.host_map.specs.Blocks.{owned, ranges, with_block, without_at}
use Rattle.host_spaces.specs.Spaces.{SpaceState}
use Rattle.host_spaces.proofs.Orders.{before, behind, length_with}
use Rattle.host_spaces.specs.declared.spaces.Spaces.{Spaces}
use Rattle.host_spaces.specs.declared.granted.Granted.{Granted}
use Rattle.host_map.specs.declared.parts.Wanted.{Wanted}
use Rattle.host_spaces.specs.MemoryMap.{AreSameSpaces, map_of, sizes_of, space_in}
use Rattle.host_map.specs.MemoryMap.{blocks_in, place_in, put_block, words_in}
use Rattle.host_map.specs.Creation.{all_placed}
use Rattle.host_spaces.specs.Wants.{AreApartWants, IsFor, IsGranted, IsWithinLimits, count_in, one_in, slot_at, somes, want_at, with_slot}
use Rattle.host_spaces.proofs.Maps.{by_space, map_with, same_then, seen_blocks, seen_words, sizes_same, spaces_equal}
use Rattle.host_spaces.proofs.Slots.{slot_other, slot_same}

-- what is known of a block that was placed
pub record IsOne (old mid : Spaces) (w : Wanted) (p : Span) : Type 0 where
  pub place : Some p.place ≡ least_place (space_in old w.space).region.size (ranges (space_in old w.space).blocks) (placed_size w.size) w.align
  pub piece : (p.region ≡ (space_in old w.space).region) × (length p.words ≡ placed_size w.size)
  pub blocks : (space_in mid w.space).blocks ≡ with_block (block_of w.owner w.align p) (space_in old w.space).blocks
  pub its : owned w.owner (space_in mid w.space).blocks ≡ with_block (block_of w.owner w.align p) (owned w.owner (space_in old w.space).blocks)
  pub others : (o : Owner) → o ≢ w.owner → owned o (space_in mid w.space).blocks ≡ owned o (space_in old w.space).blocks
  pub elsewhere : (other : Space) → other ≢ w.space → space_in mid other ≡ space_in old other
  pub back : without_at p.place (space_in mid w.space).blocks ≡ (space_in old w.space).blocks
  pub stays : AreSameSpaces old mid

-- ---- the entries from k on

pub at_none : (wants : List (Option Wanted)) (k : ℕ) (d o : Option Wanted) → k < length wants → get_or wants k d ≡ o → want_at wants k ≡ o
at_none [] k d o lt e = absurd (omega arith)
at_none (w ∷ ws) zero d o lt e = e
at_none (w ∷ ws) (suc k) d o lt e = at_none ws k d o (omega arith) e

next_want : (wants : List (Option Wanted)) (k : ℕ) (o : Option Wanted) → k < length wants → want_at wants k ≡ o → drop k wants ≡ o ∷ drop (suc k) wants
next_want wants k o lt e = drop-cons wants k None lt ∙ ap (λ (x : Option Wanted). x ∷ drop (suc k) wants) e

-- an entry that wants nothing
after_none : (wants : List (Option Wanted)) (k : ℕ) → k < length wants → want_at wants k ≡ None → somes (drop k wants) ≡ somes (drop (suc k) wants)
after_none wants k lt e = ap somes (next_want wants k None lt e)

count_none : (space : Space) (wants : List (Option Wanted)) (k : ℕ) → k < length wants → want_at wants k ≡ None → count_in space (drop k wants) ≡ count_in space (drop (suc k) wants)
count_none space wants k lt e =
    let counted : count_in space (drop k wants) ≡ 0 + count_in space (drop (suc k) wants) = ap (count_in space) (next_want wants k None lt e) in
    omega (arith, counted)

pub after_some : (wants : List (Option Wanted)) (k : ℕ) (w : Wanted) → k < length wants → want_at wants k ≡ Some w → somes (drop k wants) ≡ w ∷ somes (drop (suc k) wants)
after_some wants k w lt e = ap somes (next_want wants k (Some w) lt e)

count_some : (space : Space) (wants : List (Option Wanted)) (k : ℕ) (w : Wanted) → k < length wants → want_at wants k ≡ Some w
    → count_in space (drop k wants) ≡ one_in space (Some w) + count_in space (drop (suc k) wants)
count_some space wants k w lt e = ap (count_in space) (next_want wants k (Some w) lt e)

one_here : (space : Space) → same_space space space ≡ true
one_here Daram = refl
one_here Saram = refl
one_here External = refl

-- ---- there is room

module _ (old mid : Spaces) (w : Wanted) (p : Span) (m : IsOne old mid w p) (wants : List (Option Wanted)) (k : ℕ) (lt : k < length wants) (is : want_at wants k ≡ Some w)
    (room : (space : Space) → length (space_in old space).blocks + count_in space (drop k wants) ≤ SPACE_BLOCKS) where
  pub room_next : (space : Space) → length (space_in mid space).blocks + count_in space (drop (suc k) wants) ≤ SPACE_BLOCKS
  room_next space =
      by_space w.space space (λ (s : Space). length (space_in mid s).blocks + count_in s (drop (suc k) wants) ≤ SPACE_BLOCKS)
      (let least = room w.space in let count = count_some w.space wants k w lt is in
      let one : one_in w.space (Some w) ≡ 1 = ap (λ t. if t then 1 else 0) (one_here w.space) in
      let long = ap length m.blocks ∙ length_with (block_of w.owner w.align p) (space_in old w.space).blocks in omega arith)
      (λ apart. let least = room space in let count = count_some space wants k w lt is in
      let long = ap (λ (s : SpaceState). length s.blocks) (m.elsewhere space apart) in omega arith)

-- ---- the definition places it there

full_size : (w : Wanted) → IsWithinLimits w → placed_size w.size ≡ w.size
full_size w limits = let unit = limits.unit in omega arith

place_seen : (old : Spaces) (w : Wanted) → IsWithinLimits w
    → least_place (space_in old w.space).region.size (ranges (space_in old w.space).blocks) (placed_size w.size) w.align ≡ place_in (sizes_of old) (map_of old) w.space w.size w.align
place_seen old w limits =
    ap (λ n. least_place (space_in old w.space).region.size (ranges (space_in old w.space).blocks) n w.align) (full_size w limits)
    ∙ ap (λ n. least_place n (ranges (space_in old w.space).blocks) w.size w.align) (sym (seen_words old w.space))
    ∙ ap (λ bs. least_place (words_in (sizes_of old) w.space) (ranges bs) w.size w.align) (sym (seen_blocks old w.space))

-- it has no place, so its space is told
pub not_placed : (old : Spaces) (w : Wanted) (ws : List Wanted) → IsWithinLimits w → None ≡ least_place (space_in old w.space).region.size (ranges (space_in old w.space).blocks) (placed_size w.size) w.align
    → all_placed (sizes_of old) (map_of old) (w ∷ ws) ≡ Err w.space
not_placed old w ws limits none =
    ap (λ o. option_map_or (λ (place : ℕ).
    let b : Placed = record { owner = w.owner; place = place; size = w.size; align = w.align } in all_placed (sizes_of old) (put_block (map_of old) w.space b) ws) o (Err w.space)) (sym (none ∙ place_seen old w limits))

module _ (old mid : Spaces) (w : Wanted) (p : Span) (m : IsOne old mid w p) (limits : IsWithinLimits w) where
  long : length p.words ≡ w.size
  long = m.piece.1 ∙ full_size w limits

  map_is : map_of mid ≡ put_block (map_of old) w.space (block_of w.owner w.align p)
  map_is =
      map_with old mid w.space (with_block (block_of w.owner w.align p) (blocks_in (map_of old) w.space))
      (m.blocks ∙ ap (with_block (block_of w.owner w.align p)) (sym (seen_blocks old w.space))) m.elsewhere

  pub exact_one : (ws : List Wanted) → all_placed (sizes_of old) (map_of old) (w ∷ ws) ≡ all_placed (sizes_of mid) (map_of mid) ws
  exact_one ws =
      ap (λ o. option_map_or (λ (place : ℕ).
      let b : Placed = record { owner = w.owner; place = place; size = w.size; align = w.align } in all_placed (sizes_of old) (put_block (map_of old) w.space b) ws) o (Err w.space)) (sym (m.place ∙ place_seen old w limits))
      ∙ ap (λ n. let b : Placed = record { owner = w.owner; place = p.place; size = n; align = w.align } in all_placed (sizes_of old) (put_block (map_of old) w.space b) ws) (sym long)
      ∙ ap (λ q. all_placed (sizes_of old) q ws) (sym map_is)
      ∙ ap (λ s. all_placed s (map_of mid) ws) (sym (sizes_same old mid m.stays))

  pub is_for : IsFor old (Some w) (Some p)
  is_for = (m.piece.0, long)

-- ---- and it can be taken out again

among : (b : Placed) (bs : List Placed) → Contains (with_block b bs) b
among b [] = (zero, (let n : zero < 1 = omega arith in n), refl)
among b (c ∷ cs) = elim (cases_lt c.place b.place) [
  | inl lt ↦ let it = among b cs in let inside = it.1 in
      subst (λ xs. Contains xs b) (sym (behind b c cs lt)) (suc it.0, (let n : suc it.0 < suc (length (with_block b cs)) = omega arith in n), it.2)
  | inr ge ↦ subst (λ xs. Contains xs b) (sym (before b c cs ge)) (zero, (let n : zero < suc (suc (length cs)) = omega arith in n), refl)
]

pub its_owner : (old mid new : Spaces) (w : Wanted) (p : Span) → IsOne old mid w p → new ≡ mid → (o : Owner) × Owns (space_in new w.space).blocks o p
its_owner old mid new w p m same = (
  w.owner,
  subst (λ (s : Spaces). Owns (space_in s w.space).blocks w.owner p) (sym same)
      (w.align, subst (λ xs. Contains xs (block_of w.owner w.align p)) (sym m.its) (among (block_of w.owner w.align p) (owned w.owner (space_in old w.space).blocks))),
)

pub taken_back : (old mid new last : Spaces) (w : Wanted) (p : Span) → IsOne old mid w p → new ≡ mid
    → (space_in last w.space).blocks ≡ without_at p.place (space_in new w.space).blocks → ((other : Space) → other ≢ w.space → space_in last other ≡ space_in new other)
    → AreSameSpaces new last → last ≡ old
taken_back old mid new last w p m same blocks others stays =
    let stay = subst (λ (s : Spaces). AreSameSpaces s last) same stays in
    spaces_equal old last (same_then old mid last m.stays stay)
    (λ space. by_space w.space space (λ (s : Space). (space_in last s).blocks ≡ (space_in old s).blocks)
    (blocks ∙ ap (λ (s : Spaces). without_at p.place (space_in s w.space).blocks) same ∙ m.back)
    (λ apart. ap (λ (s : SpaceState). s.blocks) (others space apart ∙ ap (λ (s : Spaces). space_in s space) same ∙ m.elsewhere space apart)))

-- ---- what was granted

or_more : (k j : ℕ) → k ≤ j → (j ≡ k) ⊎ (suc k ≤ j)
or_more k j le = elim (cases_lt k j) [
  | inl lt ↦ inr lt
  | inr ge ↦ inl (omega arith)
]

no_poison : (word : Option ℤ) → ArePoison word []
no_poison None = tt
no_poison (Some v) = All-nil (λ x. x ≡ v)

for_none : (spaces : Spaces) (o : Option Wanted) (p : Option Span) → o ≡ None → p ≡ None → IsFor spaces o p
for_none spaces o p e f = subst (λ x. IsFor spaces x p) (sym e) (subst (λ y. IsFor spaces None y) (sym f) tt)

for_some : (spaces : Spaces) (o : Option Wanted) (q : Option Span) (w : Wanted) (p : Span) → o ≡ Some w → q ≡ Some p → IsFor spaces (Some w) (Some p) → IsFor spaces o q
for_some spaces o q w p e f it = subst (λ x. IsFor spaces x q) (sym e) (subst (λ y. IsFor spaces (Some w) y) (sym f) it)

for_before : (old mid : Spaces) (o : Option Wanted) (p : Option Span) → AreSameSpaces old mid → IsFor mid o p → IsFor old o p
for_before old mid None None same it = it
for_before old mid None (Some p) same it = it
for_before old mid (Some w) None same it = it
for_before old mid (Some w) (Some p) same it = (it.0 ∙ (same w.space).region, it.1)

abbrev nothing : Granted
nothing = record { p0 = None; p1 = None; p2 = None; p3 = None; p4 = None; p5 = None; p6 = None }

nothing_at : (j : ℕ) → slot_at nothing j ≡ None
nothing_at zero = refl
nothing_at (suc zero) = refl
nothing_at (suc (suc zero)) = refl
nothing_at (suc (suc (suc zero))) = refl
nothing_at (suc (suc (suc (suc zero)))) = refl
nothing_at (suc (suc (suc (suc (suc zero))))) = refl
nothing_at (suc (suc (suc (suc (suc (suc zero)))))) = refl
nothing_at (suc (suc (suc (suc (suc (suc (suc j))))))) = refl

some_none : {X : Type 0} (w : Wanted) → None ≡ Some w → X
some_none w e = let bad : None ≡ Some w = e in cc

pub granted_skip : (old new : Spaces) (word : Option ℤ) (k : ℕ) (wants : List (Option Wanted)) (made : Granted) → want_at wants k ≡ None
    → IsGranted old new word (suc k) wants made → IsGranted old new word k wants made
granted_skip old new word k wants made none g = record {
  before = λ j lt. g.before j (omega arith);
  slots = λ j le. elim (or_more k j le) [
    | inl same ↦ for_none old (want_at wants j) (slot_at made j) (ap (want_at wants) same ∙ none) (g.before j (omega arith))
    | inr more ↦ g.slots j more
  ];
  poison = g.poison;
  blocks = λ j w p le is at. elim (or_more k j le) [
    | inl same ↦ some_none w (sym (ap (want_at wants) same ∙ none) ∙ is)
    | inr more ↦ g.blocks j w p more is at
  ];
  others = λ o space apart. g.others o space (λ j w more is there. apart j w (omega arith) is there);
}

-- entries k to r that want nothing
module _ (wants : List (Option Wanted)) where
  pub somes_passed : (r k : ℕ) → k ≤ r → r ≤ length wants → ((j : ℕ) → k ≤ j → j < r → want_at wants j ≡ None) → somes (drop k wants) ≡ somes (drop r wants)
  somes_passed zero k le long none = let same : k ≡ zero = omega (arith, le) in ap (λ m. somes (drop m wants)) same
  somes_passed (suc r) k le long none = elim (or_more k (suc r) le) [
    | inl same ↦ ap (λ m. somes (drop m wants)) (sym same)
    | inr more ↦
        somes_passed r k (omega (arith, more)) (omega (arith, long)) (λ j from to. none j from (omega (arith, to)))
        ∙ after_none wants r (omega (arith, long)) (none r (omega (arith, more)) (omega arith))
  ]

  pub count_passed : (space : Space) (r k : ℕ) → k ≤ r → r ≤ length wants → ((j : ℕ) → k ≤ j → j < r → want_at wants j ≡ None) → count_in space (drop k wants) ≡ count_in space (drop r wants)
  count_passed space zero k le long none = let same : k ≡ zero = omega (arith, le) in ap (λ m. count_in space (drop m wants)) same
  count_passed space (suc r) k le long none = elim (or_more k (suc r) le) [
    | inl same ↦ ap (λ m. count_in space (drop m wants)) (sym same)
    | inr more ↦
        count_passed space r k (omega (arith, more)) (omega (arith, long)) (λ j from to. none j from (omega (arith, to)))
        ∙ count_none space wants r (omega (arith, long)) (none r (omega (arith, more)) (omega arith))
  ]

  pub granted_passed : (old new : Spaces) (word : Option ℤ) (made : Granted) (r k : ℕ) → k ≤ r → ((j : ℕ) → k ≤ j → j < r → want_at wants j ≡ None)
      → IsGranted old new word r wants made → IsGranted old new word k wants made
  granted_passed old new word made zero k le none it = let same : k ≡ zero = omega (arith, le) in subst (λ m. IsGranted old new word m wants made) (sym same) it
  granted_passed old new word made (suc r) k le none it = elim (or_more k (suc r) le) [
    | inl same ↦ subst (λ m. IsGranted old new word m wants made) same it
    | inr more ↦
        granted_passed old new word made r k (omega (arith, more)) (λ j from to. none j from (omega (arith, to)))
        (granted_skip old new word r wants made (none r (omega (arith, more)) (omega arith)) it)
  ]

module _ (old mid new : Spaces) (word : Option ℤ) (k : ℕ) (wants : List (Option Wanted)) (made : Granted) (w : Wanted) (p : Span) (lt : k < 7) (is : want_at wants k ≡ Some w)
    (limits : IsWithinLimits w) (m : IsOne old mid w p) (filled : ArePoison word p.words) (apart : AreApartWants wants) (g : IsGranted mid new word (suc k) wants made) where
  other_slot : (j : ℕ) → j ≢ k → slot_at (with_slot made k (Some p)) j ≡ slot_at made j
  other_slot j differs = slot_other made k j (Some p) differs

  this_slot : (j : ℕ) → j ≡ k → slot_at (with_slot made k (Some p)) j ≡ Some p
  this_slot j same = ap (slot_at (with_slot made k (Some p))) same ∙ slot_same made k (Some p) lt

  same_blocks : (o : Owner) (space : Space) → (w.space ≡ space → o ≢ w.owner) → owned o (space_in mid space).blocks ≡ owned o (space_in old space).blocks
  same_blocks o space differs =
      by_space w.space space (λ (s : Space). (w.space ≡ s → o ≢ w.owner) → owned o (space_in mid s).blocks ≡ owned o (space_in old s).blocks)
      (λ here. m.others o (here refl))
      (λ away here. ap (λ (s : SpaceState). owned o s.blocks) (m.elsewhere space away)) differs

  this_block : owned w.owner (space_in new w.space).blocks ≡ with_block (block_of w.owner w.align p) (owned w.owner (space_in old w.space).blocks)
  this_block = g.others w.owner w.space (λ j v more at there. apart k j w v more is at (sym there)) ∙ m.its

  other_block : (j : ℕ) (v : Wanted) (q : Span) → suc k ≤ j → want_at wants j ≡ Some v → slot_at made j ≡ Some q
      → owned v.owner (space_in new v.space).blocks ≡ with_block (block_of v.owner v.align q) (owned v.owner (space_in old v.space).blocks)
  other_block j v q more at slot =
      g.blocks j v q more at slot
      ∙ ap (with_block (block_of v.owner v.align q)) (same_blocks v.owner v.space (λ there e. apart k j w v more is at there (sym e)))

  its_block : (j : ℕ) (v : Wanted) (q : Span) → j ≡ k → want_at wants j ≡ Some v → slot_at (with_slot made k (Some p)) j ≡ Some q
      → owned v.owner (space_in new v.space).blocks ≡ with_block (block_of v.owner v.align q) (owned v.owner (space_in old v.space).blocks)
  its_block j v q same at slot =
      let wanted : Some w ≡ Some v = sym is ∙ sym (ap (want_at wants) same) ∙ at in let piece : Some p ≡ Some q = sym (this_slot j same) ∙ slot in
      let w_is : w ≡ v = cc in let p_is : p ≡ q = cc in
      subst (λ (x : Wanted). owned x.owner (space_in new x.space).blocks ≡ with_block (block_of x.owner x.align q) (owned x.owner (space_in old x.space).blocks)) w_is
      (subst (λ (s : Span). owned w.owner (space_in new w.space).blocks ≡ with_block (block_of w.owner w.align s) (owned w.owner (space_in old w.space).blocks)) p_is this_block)

  pub granted_next : IsGranted old new word k wants (with_slot made k (Some p))
  granted_next = record {
    before = λ j less. other_slot j (λ same. omega arith) ∙ g.before j (omega arith);
    slots = λ j le. elim (or_more k j le) [
      | inl same ↦ for_some old (want_at wants j) (slot_at (with_slot made k (Some p)) j) w p (ap (want_at wants) same ∙ is) (this_slot j same) (is_for old mid w p m limits)
      | inr more ↦ subst (λ s. IsFor old (want_at wants j) s) (sym (other_slot j (λ same. omega arith))) (for_before old mid (want_at wants j) (slot_at made j) m.stays (g.slots j more))
    ];
    poison = λ j. elim (cases_eq j k) [
      | inl same ↦ subst (λ s. ArePoison word (piece_words s)) (sym (this_slot j same)) filled
      | inr differs ↦ subst (λ s. ArePoison word (piece_words s)) (sym (other_slot j differs)) (g.poison j)
    ];
    blocks = λ j v q le at slot. elim (or_more k j le) [
      | inl same ↦ its_block j v q same at slot
      | inr more ↦ other_block j v q more at (sym (other_slot j (λ same. omega arith)) ∙ slot)
    ];
    others = λ o space others.
        g.others o space (λ j v more at there. others j v (omega arith) at there)
        ∙ same_blocks o space (λ here. others k w (omega arith) is here);
  }

pub on_ok : (r : Result (Unit {0}) Space) (P Q : Type 0) → (P → Q) → OnOk r P → OnOk r Q
on_ok (Ok done) P Q f it = f it
on_ok (Err space) P Q f it = it
