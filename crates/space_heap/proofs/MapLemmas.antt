-- What a taken, a given and a moved block do to the blocks and to the free words.
use Rattle.std.proofs.Common.{◌≡◌, ℕ, zero, suc, ◌+◌, ◌<◌, ◌≤◌, ◌⊎◌, max, Bool, true, false, ◌||◌, not, List, [], ◌∷◌, ◌++◌, map, length, Option, inl, inr, refl, subst, sym, ◌∙◌, ap, arith}
use Rattle.std.specs.Prelude.{ℤ, is_some}
use Rattle.std.specs.List.{list_any, range_with_len}
use Rattle.std.proofs.lemmas.Bool.{cases_lt}
use Rattle.space_raw.specs.Slots.{IsRun}
use Rattle.relocate.specs.Places.{Range, end_of, covers, is_covered, meets}
use Rattle.space_heap.specs.Maps.{IsBlock, AreBlocks, free_beside}
use Rattle.space_heap.specs.Holes.{in_rest, AreParts}
use Rattle.relocate.proofs.RangeTests.{either, true_or_false, clash, when_not, both_false, or_false, left_true, false_left, not_false, is_in, in_range, meet_if, if_meet, meet_sym, covered_between}
use Rattle.space_heap.proofs.Words.{is_run, marks}

marks_tell : (f g : ℕ → Bool) (first n : ℕ) → map f (range_with_len first n) ≡ map g (range_with_len first n) → (k : ℕ) → first ≤ k → k < first + n → f k ≡ g k
marks_tell f g first zero e k from to = absurd (omega arith)
marks_tell f g first (suc n) e k from to =
    let head : f first ≡ g first = cc in let tail : map f (range_with_len (first + 1) n) ≡ map g (range_with_len (first + 1) n) = cc in
    either (cases_lt first k)
    (λ more. let next : first + 1 ≤ k = omega arith in let last : k < first + 1 + n = omega arith in marks_tell f g (first + 1) n tail k next last)
    (λ at. let same : first ≡ k = omega arith in subst (λ j. f j ≡ g j) same head)

told_marks : (f g : ℕ → Bool) (first n : ℕ) → ((k : ℕ) → first ≤ k → k < first + n → f k ≡ g k) → map f (range_with_len first n) ≡ map g (range_with_len first n)
told_marks f g first zero same = refl
told_marks f g first (suc n) same =
    let head : f first ≡ g first = (let from : first ≤ first = omega arith in let to : first < first + suc n = omega arith in same first from to) in
    let tail : map f (range_with_len (first + 1) n) ≡ map g (range_with_len (first + 1) n) = told_marks f g (first + 1) n (λ k from to. same k (omega arith) (omega arith)) in cc

-- a word of the space is free exactly where no block covers it
abbrev pub Agree : ℕ → (ℕ → Bool) → List Range → Type 0
Agree words free taken = (k : ℕ) → k < words → free k ≡ not (is_covered taken k)

pub agree : (words : ℕ) (rest : List (Option ℤ)) (taken : List Range) → length rest ≡ words → map is_some rest ≡ free_beside words taken → Agree words (in_rest rest) taken
agree words rest taken long e k lt =
    let marked : map (in_rest rest) (range_with_len 0 words) ≡ free_beside words taken = ap (λ n. map (in_rest rest) (range_with_len 0 n)) (sym long) ∙ sym (marks rest) ∙ e in
    marks_tell (in_rest rest) (λ j. not (is_covered taken j)) 0 words marked k (omega arith) (omega arith)

pub same_marks : (words : ℕ) (rest : List (Option ℤ)) (taken : List Range) → length rest ≡ words → Agree words (in_rest rest) taken → map is_some rest ≡ free_beside words taken
same_marks words rest taken long a =
    marks rest ∙ ap (λ n. map (in_rest rest) (range_with_len 0 n)) long
    ∙ told_marks (in_rest rest) (λ j. not (is_covered taken j)) 0 words (λ k from to. a k (omega arith))

-- where no block is taken, every word is there
pub whole_rest : (words : ℕ) (rest : List (Option ℤ)) → length rest ≡ words → map is_some rest ≡ free_beside words [] → IsRun rest 0 (length rest)
whole_rest words rest long e = is_run rest 0 (length rest) (omega arith) (λ k low lt. agree words rest [] long e k (omega arith))

-- a range that meets none of the blocks has no word of one
pub uncovered : (r : Range) (xs : List Range) → list_any (meets r) xs ≡ false → (k : ℕ) → covers r k ≡ true → is_covered xs k ≡ false
uncovered r [] none k has = refl
uncovered r (x ∷ xs) none k has =
    let both = both_false (meets r x) (list_any (meets r) xs) none in
    or_false (covers x k) (is_covered xs k)
    (when_not (covers x k) (λ also. let a = is_in r k has in let b = is_in x k also in let l = a.0 in let m = a.1 in let n = b.0 in let o = b.1 in
    clash (meets r x) (meet_if r x (omega arith) (omega arith)) both.0))
    (uncovered r xs both.1 k has)

pub no_meeting : (words : ℕ) (r : Range) (xs : List Range) → 0 < r.size → AreBlocks words xs → ((k : ℕ) → covers r k ≡ true → is_covered xs k ≡ false) → list_any (meets r) xs ≡ false
no_meeting words r [] some blocks none = refl
no_meeting words r (x ∷ xs) some blocks none =
    or_false (meets r x) (list_any (meets r) xs)
    (when_not (meets r x) (λ met. let both = if_meet r x met in let a = both.0 in let b = both.1 in let more = blocks.0.some in let k = max r.place x.place in
    let mine : covers r k ≡ true = in_range r k (omega arith) (omega arith) in let its : covers x k ≡ true = in_range x k (omega arith) (omega arith) in
    clash (covers x k) its (both_false (covers x k) (is_covered xs k) (none k mine)).0))
    (no_meeting words r xs some blocks.2 (λ k has. (both_false (covers x k) (is_covered xs k) (none k has)).1))

module _ (words : ℕ) where
  any_between : (p : Range → Bool) (xs : List Range) (r : Range) (ys : List Range) → list_any p (xs ++ r ∷ ys) ≡ false → (p r ≡ false) × (list_any p (xs ++ ys) ≡ false)
  any_between p [] r ys e = both_false (p r) (list_any p ys) e
  any_between p (x ∷ xs) r ys e =
      let both = both_false (p x) (list_any p (xs ++ r ∷ ys)) e in let rest = any_between p xs r ys both.1 in (rest.0, or_false (p x) (list_any p (xs ++ ys)) both.0 rest.1)

  none_between : (p : Range → Bool) (xs : List Range) (r : Range) (ys : List Range) → p r ≡ false → list_any p (xs ++ ys) ≡ false → list_any p (xs ++ r ∷ ys) ≡ false
  none_between p [] r ys e f = or_false (p r) (list_any p ys) e f
  none_between p (x ∷ xs) r ys e f =
      let both = both_false (p x) (list_any p (xs ++ ys)) f in or_false (p x) (list_any p (xs ++ r ∷ ys)) both.0 (none_between p xs r ys e both.1)

  pub block_out : (xs : List Range) (r : Range) (ys : List Range) → AreBlocks words (xs ++ r ∷ ys) → IsBlock words r × (list_any (meets r) (xs ++ ys) ≡ false) × AreBlocks words (xs ++ ys)
  block_out [] r ys blocks = blocks
  block_out (x ∷ xs) r ys blocks =
      let rest = block_out xs r ys blocks.2 in let apart = any_between (meets x) xs r ys blocks.1 in
      (rest.0, or_false (meets r x) (list_any (meets r) (xs ++ ys)) (meet_sym x r apart.0) rest.1, (blocks.0, apart.1, rest.2))

  pub block_in : (xs : List Range) (r : Range) (ys : List Range) → IsBlock words r → list_any (meets r) (xs ++ ys) ≡ false → AreBlocks words (xs ++ ys) → AreBlocks words (xs ++ r ∷ ys)
  block_in [] r ys block none blocks = (block, none, blocks)
  block_in (x ∷ xs) r ys block none blocks =
      let both = both_false (meets r x) (list_any (meets r) (xs ++ ys)) none in
      (blocks.0, none_between (meets x) xs r ys (meet_sym r x both.0) blocks.1, block_in xs r ys block both.1 blocks.2)

  module _ (xs : List Range) (ys : List Range) where
    abbrev U : ℕ → Bool
    U k = is_covered (xs ++ ys) k

    between : (r : Range) (k : ℕ) → is_covered (xs ++ r ∷ ys) k ≡ (covers r k || U k)
    between r k = covered_between xs r ys k

    -- a block of free words is taken
    module _ (old new : ℕ → Bool) (r : Range) (parts : AreParts old r new) (block : IsBlock words r) (blocks : AreBlocks words (xs ++ ys)) (before : Agree words old (xs ++ ys)) where
      free_there : (k : ℕ) → covers r k ≡ true → U k ≡ false
      free_there k has =
          let inside = block.inside in let lt : k < words = (let to = (is_in r k has).1 in omega arith) in
          not_false (U k) (sym (before k lt) ∙ parts.all k ∙ left_true (covers r k) (new k) has)

      pub taken_blocks : AreBlocks words (xs ++ r ∷ ys)
      taken_blocks = block_in xs r ys block (no_meeting words r (xs ++ ys) block.some blocks free_there) blocks

      pub taken_agrees : Agree words new (xs ++ r ∷ ys)
      taken_agrees k lt =
          either (true_or_false (covers r k))
          (λ has. parts.apart k has ∙ sym (ap not (between r k ∙ left_true (covers r k) (U k) has)))
          (λ hasnt. sym (false_left (covers r k) (new k) hasnt) ∙ sym (parts.all k) ∙ before k lt ∙ sym (ap not (between r k ∙ false_left (covers r k) (U k) hasnt)))

    -- a block is given back
    module _ (old new : ℕ → Bool) (r : Range) (parts : AreParts new r old) (blocks : AreBlocks words (xs ++ r ∷ ys)) (before : Agree words old (xs ++ r ∷ ys)) where
      pub given_blocks : AreBlocks words (xs ++ ys)
      given_blocks = (block_out xs r ys blocks).2

      pub given_agrees : Agree words new (xs ++ ys)
      given_agrees k lt =
          either (true_or_false (covers r k))
          (λ has. parts.all k ∙ left_true (covers r k) (old k) has ∙ sym (ap not (uncovered r (xs ++ ys) (block_out xs r ys blocks).1 k has)))
          (λ hasnt. parts.all k ∙ false_left (covers r k) (old k) hasnt ∙ before k lt ∙ ap not (between r k ∙ false_left (covers r k) (U k) hasnt))

    -- a block is moved down, and the words that it leaves are free
    module _ (old rest new : ℕ → Bool) (gap behind r s : Range) (out : AreParts old gap rest) (back : AreParts new behind rest)
        (start : gap.place ≡ s.place) (meeting : end_of gap ≡ r.place) (size : s.size ≡ r.size) (next : behind.place ≡ end_of s) (end : end_of behind ≡ end_of r)
        (blocks : AreBlocks words (xs ++ r ∷ ys)) (before : Agree words old (xs ++ r ∷ ys)) (block : IsBlock words s) where
      its_blocks : IsBlock words r × (list_any (meets r) (xs ++ ys) ≡ false) × AreBlocks words (xs ++ ys)
      its_blocks = block_out xs r ys blocks

      -- a word from the new place up to the old end
      abbrev InRun : ℕ → Type 0
      InRun k = (covers gap k ≡ true) ⊎ (covers r k ≡ true)

      in_run : (k : ℕ) → s.place ≤ k → k < end_of r → InRun k
      in_run k from to = either (cases_lt k r.place) (λ lt. inl (in_range gap k (omega arith) (omega arith))) (λ ge. inr (in_range r k (omega arith) (omega arith)))

      no_other : (k : ℕ) → k < words → InRun k → U k ≡ false
      no_other k lt (inl has) =
          let free : not (is_covered (xs ++ r ∷ ys) k) ≡ true = sym (before k lt) ∙ out.all k ∙ left_true (covers gap k) (rest k) has in
          (both_false (covers r k) (U k) (sym (between r k) ∙ not_false (is_covered (xs ++ r ∷ ys) k) free)).1
      no_other k lt (inr has) = uncovered r (xs ++ ys) its_blocks.1 k has

      not_left : (k : ℕ) → k < words → InRun k → rest k ≡ false
      not_left k lt (inl has) = out.apart k has
      not_left k lt (inr has) =
          (both_false (covers gap k) (rest k) (sym (out.all k) ∙ before k lt ∙ ap not (between r k ∙ left_true (covers r k) (U k) has))).1

      end_inside : end_of r ≤ words
      end_inside = its_blocks.0.inside

      in_space : (k : ℕ) → k < end_of r → k < words
      in_space k lt = let inside = end_inside in omega arith

      pub moved_blocks : AreBlocks words (xs ++ s ∷ ys)
      moved_blocks = block_in xs s ys block
          (no_meeting words s (xs ++ ys) block.some its_blocks.2 (λ k has. let both = is_in s k has in let from = both.0 in let to = both.1 in
          let last : k < end_of r = omega arith in no_other k (in_space k last) (in_run k from last)))
          its_blocks.2

      in_block : (k : ℕ) → k < words → covers s k ≡ true → new k ≡ not (is_covered (xs ++ s ∷ ys) k)
      in_block k lt has =
          let both = is_in s k has in let from = both.0 in let to = both.1 in let last : k < end_of r = omega arith in
          let out_of_behind : covers behind k ≡ false = when_not (covers behind k) (λ there. let low = (is_in behind k there).0 in omega arith) in
          back.all k ∙ or_false (covers behind k) (rest k) out_of_behind (not_left k lt (in_run k from last)) ∙ sym (ap not (between s k ∙ left_true (covers s k) (U k) has))

      in_behind : (k : ℕ) → k < words → covers s k ≡ false → covers behind k ≡ true → new k ≡ not (is_covered (xs ++ s ∷ ys) k)
      in_behind k lt hasnt has =
          let both = is_in behind k has in let from = both.0 in let to = both.1 in let low : s.place ≤ k = omega arith in let last : k < end_of r = omega arith in
          back.all k ∙ left_true (covers behind k) (rest k) has ∙ sym (ap not (between s k ∙ or_false (covers s k) (U k) hasnt (no_other k lt (in_run k low last))))

      elsewhere : (k : ℕ) → k < words → covers s k ≡ false → covers behind k ≡ false → new k ≡ not (is_covered (xs ++ s ∷ ys) k)
      elsewhere k lt no_block no_behind =
          let outside : s.place ≤ k → k < end_of r → ⊥ = λ low last. either (cases_lt k (end_of s))
          (λ in_s. clash (covers s k) (in_range s k low in_s) no_block)
          (λ past. clash (covers behind k) (in_range behind k (omega arith) (omega arith)) no_behind) in
          let no_gap : covers gap k ≡ false = when_not (covers gap k) (λ there. let both = is_in gap k there in let low = both.0 in let to = both.1 in outside (omega arith) (omega arith)) in
          let no_old : covers r k ≡ false = when_not (covers r k) (λ there. let both = is_in r k there in let low = both.0 in let to = both.1 in outside (omega arith) to) in
          back.all k ∙ false_left (covers behind k) (rest k) no_behind
          ∙ sym (false_left (covers gap k) (rest k) no_gap) ∙ sym (out.all k) ∙ before k lt
          ∙ ap not (between r k ∙ false_left (covers r k) (U k) no_old ∙ sym (false_left (covers s k) (U k) no_block) ∙ sym (between s k))

      pub moved_agrees : Agree words new (xs ++ s ∷ ys)
      moved_agrees k lt =
          either (true_or_false (covers s k)) (λ has. in_block k lt has)
          (λ hasnt. either (true_or_false (covers behind k)) (λ has. in_behind k lt hasnt has) (λ nor. elsewhere k lt hasnt nor))
