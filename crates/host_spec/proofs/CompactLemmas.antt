-- A compaction is a step, and then a compaction of what that leaves.
use Rattle.std.proofs.Common.{◌≡◌, ℕ, ◌+◌, ◌^◌, ◌<◌, ◌==◌, Bool, true, false, List, [], ◌∷◌, length, Some, refl, ap, sym, ◌∙◌, subst, arith, if◌then◌else◌}
use Rattle.std.specs.Prelude.{slice_get, sum_by}
use Rattle.std.specs.Int.{next_multiple_of}
use Rattle.std.proofs.lemmas.Bool.{eq-eqb, eqb-true}
use Rattle.std.proofs.lemmas.List.Sums.{sum_by-cons}
use Rattle.mem_rec.specs.declared.Space.{Space}
use Rattle.mem_rec.specs.declared.Space.TheVariants.{Daram, Saram, External}
use Rattle.host_map.specs.declared.placed.Placed.{Placed}
use Rattle.host_map.specs.Moves.{moved_behind, next_block, packed_behind, unpacked_behind}
use Rattle.host_map.specs.MemoryMap.{MemoryMap, blocks_in, with_blocks, moved_in, packed_in}
use Rattle.host_spec.specs.State.{State}
use Rattle.host_spec.specs.Steps.{more_copied, moving, step, compact}
use Rattle.host_spec.specs.Laws.{IsSteps}

-- ---- blocks

-- a move changes no packed place
packed_if : (t : Bool) (end : ℕ) (b : Placed) (cs bs : List Placed) → (let behind = next_multiple_of end b.align + b.size in packed_behind behind cs ≡ packed_behind behind bs)
    → packed_behind end (if t then b ∷ cs else record b { place = next_multiple_of end b.align } ∷ bs) ≡ packed_behind end (b ∷ bs)
packed_if true end b cs bs e = ap (λ others. record b { place = next_multiple_of end b.align } ∷ others) e
packed_if false end b cs bs e = refl

packed_of_moved : (end : ℕ) (bs : List Placed) → packed_behind end (moved_behind end bs) ≡ packed_behind end bs
packed_of_moved end [] = refl
packed_of_moved end (b ∷ bs) =
    let place = next_multiple_of end b.align in
    packed_if (b.place == place) end b (moved_behind (place + b.size) bs) bs (packed_of_moved (place + b.size) bs)

-- blocks that aren't at their packed places, behind one that is tested for it
abbrev others_if : Bool → Placed → List Placed → List Placed
others_if t b others = if t then others else b ∷ others

-- the block that moves was the first of those that aren't at their packed places, and then the others aren't
unpacked_if : (t : Bool) (end : ℕ) (b : Placed) (cs bs : List Placed) (u : Placed) (us : List Placed) → (b.place == next_multiple_of end b.align) ≡ t
    → (let behind = next_multiple_of end b.align + b.size in unpacked_behind behind bs ≡ u ∷ us → unpacked_behind behind cs ≡ us)
    → others_if t b (unpacked_behind (next_multiple_of end b.align + b.size) bs) ≡ u ∷ us
    → unpacked_behind end (if t then b ∷ cs else record b { place = next_multiple_of end b.align } ∷ bs) ≡ us
unpacked_if true end b cs bs u us is rest e = ap (λ t. others_if t b (unpacked_behind (next_multiple_of end b.align + b.size) cs)) is ∙ rest e
unpacked_if false end b cs bs u us is rest e =
    let place = next_multiple_of end b.align in
    let others = unpacked_behind (place + b.size) bs in
    let first : b ∷ others ≡ u ∷ us = e in
    let same : others ≡ us = cc in
    ap (λ t. others_if t (record b { place = place }) others) (eq-eqb place place refl) ∙ same

unpacked_of_moved : (end : ℕ) (bs : List Placed) (u : Placed) (us : List Placed) → unpacked_behind end bs ≡ u ∷ us → unpacked_behind end (moved_behind end bs) ≡ us
unpacked_of_moved end [] u us e = absurd (let bad : [] ≡ u ∷ us = e in cc)
unpacked_of_moved end (b ∷ bs) u us e =
    let place = next_multiple_of end b.align in
    unpacked_if (b.place == place) end b (moved_behind (place + b.size) bs) bs u us refl (unpacked_of_moved (place + b.size) bs u us) e

-- where all are at their packed places, they stand as they are packed
same_if : (t : Bool) (end : ℕ) (b : Placed) (bs : List Placed) → (b.place == next_multiple_of end b.align) ≡ t
    → (let behind = next_multiple_of end b.align + b.size in unpacked_behind behind bs ≡ [] → packed_behind behind bs ≡ bs)
    → others_if t b (unpacked_behind (next_multiple_of end b.align + b.size) bs) ≡ [] → packed_behind end (b ∷ bs) ≡ b ∷ bs
same_if true end b bs is rest e =
    let place = next_multiple_of end b.align in
    ap (λ n. record b { place = n } ∷ packed_behind (place + b.size) bs) (sym (eqb-true b.place place is)) ∙ ap (λ cs. b ∷ cs) (rest e)
same_if false end b bs is rest e = absurd (let bad : b ∷ unpacked_behind (next_multiple_of end b.align + b.size) bs ≡ [] = e in cc)

packed_where_none : (end : ℕ) (bs : List Placed) → unpacked_behind end bs ≡ [] → packed_behind end bs ≡ bs
packed_where_none end [] e = refl
packed_where_none end (b ∷ bs) e =
    let place = next_multiple_of end b.align in
    same_if (b.place == place) end b bs refl (packed_where_none (place + b.size) bs) e

abbrev words_of : List Placed → ℕ
words_of bs = sum_by (λ (b : Placed). b.size) bs

-- the blocks after the next move
pub record IsMoved (bs : List Placed) (u : Placed) : Type 0 where
  pub there : next_block bs ≡ Some u
  pub same : packed_behind 0 (moved_behind 0 bs) ≡ packed_behind 0 bs
  pub count : length (unpacked_behind 0 (moved_behind 0 bs)) + 1 ≡ length (unpacked_behind 0 bs)
  pub words : words_of (unpacked_behind 0 (moved_behind 0 bs)) + u.size ≡ words_of (unpacked_behind 0 bs)

is_moved : (bs : List Placed) (u : Placed) (us : List Placed) → unpacked_behind 0 bs ≡ u ∷ us → IsMoved bs u
is_moved bs u us e =
    let rest = unpacked_of_moved 0 bs u us e in
    record {
      there = ap (λ xs. slice_get xs 0) e;
      same = packed_of_moved 0 bs;
      count = let left = ap length rest in let all = ap length e in omega arith;
      words = let left = ap words_of rest in let all = ap words_of e in let first = sum_by-cons (λ (b : Placed). b.size) u us in omega arith;
    }

-- ---- states

same_blocks : (map : MemoryMap) (space : Space) → with_blocks map space (blocks_in map space) ≡ map
same_blocks map Daram = refl
same_blocks map Saram = refl
same_blocks map External = refl

blocks_with : (map : MemoryMap) (space : Space) (blocks : List Placed) → blocks_in (with_blocks map space blocks) space ≡ blocks
blocks_with map Daram blocks = refl
blocks_with map Saram blocks = refl
blocks_with map External blocks = refl

with_twice : (map : MemoryMap) (space : Space) (first second : List Placed)
    → with_blocks (with_blocks map space first) space second ≡ with_blocks map space second
with_twice map Daram first second = refl
with_twice map Saram first second = refl
with_twice map External first second = refl

pair_is : {A B : Type 0} (a c : A) (b d : B) → a ≡ c → b ≡ d → ◌≡◌ {A = A × B} (a, b) (c, d)
pair_is {A = A} {B = B} a c b d e f = subst (λ x. ◌≡◌ {A = A × B} (a, b) (x, d)) e (subst (λ y. ◌≡◌ {A = A × B} (a, b) (a, y)) f refl)

true_is_false : (b : Bool) → b ≡ true → b ≡ false → ⊥
true_is_false b is isnt = cc

more_is : (copied first second all : ℕ) → second + first ≡ all → more_copied (more_copied copied first) second ≡ more_copied copied all
more_is copied first second all e = omega arith

none_more : (copied words : ℕ) → copied < 2 ^ 64 → words ≡ 0 → more_copied copied words ≡ copied
none_more copied words counted e = omega arith

module _ {M : Type 0} (before : State M) (space : Space) where
  abbrev here : List Placed
  here = blocks_in before.map space

  -- the state with this memory map, and so many words copied
  abbrev with_these : MemoryMap → ℕ → State M
  with_these map copied = record before { map = map; copied = copied }

  these_are : (p q : MemoryMap) (c d : ℕ) → p ≡ q → c ≡ d → with_these p c ≡ with_these q d
  these_are p q c d e f = ap (λ map. with_these map c) e ∙ ap (λ copied. with_these q copied) f

  compact_still : before.copied < 2 ^ 64 → unpacked_behind 0 here ≡ [] → compact before space ≡ (0, before)
  compact_still counted none =
      pair_is (length (unpacked_behind 0 here)) 0 (compact before space).1 before (ap length none)
      (these_are (packed_in before.map space) before.map (more_copied before.copied (words_of (unpacked_behind 0 here))) before.copied
      (ap (with_blocks before.map space) (packed_where_none 0 here none) ∙ same_blocks before.map space)
      (none_more before.copied (words_of (unpacked_behind 0 here)) counted (ap words_of none)))

  -- what a step leaves
  module _ (u : Placed) (is : IsMoved here u) where
    abbrev stepped : State M
    stepped = with_these (moved_in before.map space) (more_copied before.copied u.size)

    step_is : step before space ≡ (true, stepped)
    step_is = ap (moving before space) is.there

    left : blocks_in stepped.map space ≡ moved_behind 0 here
    left = blocks_with before.map space (moved_behind 0 here)

    then_compact : compact before space ≡ ((compact stepped space).0 + 1, (compact stepped space).1)
    then_compact =
        let words : words_of (unpacked_behind 0 (blocks_in stepped.map space)) + u.size ≡ words_of (unpacked_behind 0 here) =
        ap (λ bs. words_of (unpacked_behind 0 bs) + u.size) left ∙ is.words in
        pair_is (length (unpacked_behind 0 here)) ((compact stepped space).0 + 1) (compact before space).1 (compact stepped space).1
        (sym (ap (λ bs. length (unpacked_behind 0 bs) + 1) left ∙ is.count))
        (these_are (packed_in before.map space) (packed_in stepped.map space) (more_copied before.copied (words_of (unpacked_behind 0 here))) (compact stepped space).1.copied
        (ap (with_blocks before.map space) (sym (ap (packed_behind 0) left ∙ is.same)) ∙ sym (with_twice before.map space (moved_behind 0 here) (packed_behind 0 (blocks_in stepped.map space))))
        (sym (more_is before.copied u.size (words_of (unpacked_behind 0 (blocks_in stepped.map space))) (words_of (unpacked_behind 0 here)) words)))

    moving_steps : IsSteps before space
    moving_steps = record {
      last = λ stopped. absurd (true_is_false (step before space).0 (ap (λ o. o.0) step_is) stopped);
      more = λ moves. subst (λ o. compact before space ≡ ((compact o.1 space).0 + 1, (compact o.1 space).1)) (sym step_is) then_compact;
    }

  still_steps : before.copied < 2 ^ 64 → unpacked_behind 0 here ≡ [] → IsSteps before space
  still_steps counted none = record {
    last = λ stopped. compact_still counted none;
    more = λ moves. absurd (true_is_false (step before space).0 moves (ap (λ bs. (moving before space (slice_get bs 0)).0) none));
  }

  by_next : before.copied < 2 ^ 64 → (unpacked : List Placed) → unpacked_behind 0 here ≡ unpacked → IsSteps before space
  by_next counted [] e = still_steps counted e
  by_next counted (u ∷ us) e = moving_steps u (is_moved here u us e)

  pub steps_compact : before.copied < 2 ^ 64 → IsSteps before space
  steps_compact counted = by_next counted (unpacked_behind 0 here) refl
