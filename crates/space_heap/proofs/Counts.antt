-- How many words are free, and how many are taken.
use Rattle.std.proofs.Common.{◌≡◌, ℕ, zero, suc, ◌+◌, ◌-◌, ◌<◌, ◌≤◌, max, Bool, true, false, cond, ◌||◌, not, List, [], ◌∷◌, map, length, refl, ap, sym, ◌∙◌, arith}
use Rattle.std.specs.Prelude.{ℤ, Option, is_some, sum_by, count_by}
use Rattle.std.proofs.lemmas.Bool.{cases_lt}
use Rattle.std.proofs.lemmas.List.Sums.{sum_by-cons}
use Rattle.std.specs.List.{range_with_len}
use Rattle.relocate.specs.Places.{Range, end_of, covers, is_covered}
use Rattle.space_heap.specs.Maps.{AreBlocks, free_beside}
use Rattle.space_heap.specs.Holes.{in_rest, AreParts}
use Rattle.relocate.proofs.RangeTests.{either, true_or_false, clash, is_in, in_range}
use Rattle.space_heap.proofs.Words.{marks}
use Rattle.space_heap.proofs.MapLemmas.{uncovered}

-- how many of n numbers pass
Count : (ℕ → Bool) → ℕ → ℕ → ℕ
Count f first n = count_by f (range_with_len first n)

no_numbers : (f : ℕ → Bool) (first : ℕ) → Count f first 0 ≡ 0
unfolding Count
no_numbers f first = refl

one_more : (f : ℕ → Bool) (first n : ℕ) → Count f first (suc n) ≡ cond (f first) 1 0 + Count f (first + 1) n
unfolding Count
one_more f first n = sum_by-cons (λ k. cond (f k) 1 0) first (range_with_len (first + 1) n)

of_marks : (f : ℕ → Bool) (first n : ℕ) → count_by (λ mark. mark) (map f (range_with_len first n)) ≡ Count f first n
of_marks f first zero = sym (no_numbers f first)
of_marks f first (suc n) =
    sum_by-cons (λ mark. cond mark 1 0) (f first) (map f (range_with_len (first + 1) n)) ∙ ap (λ m. cond (f first) 1 0 + m) (of_marks f (first + 1) n) ∙ sym (one_more f first n)

none_count : (first n : ℕ) → Count (λ _. false) first n ≡ 0
none_count first zero = no_numbers (λ _. false) first
none_count first (suc n) = let step = one_more (λ _. false) first n in let rest = none_count (first + 1) n in omega arith

rest_count : (f : ℕ → Bool) (first n : ℕ) → Count f first n + Count (λ k. not (f k)) first n ≡ n
rest_count f first zero = let a = no_numbers f first in let b = no_numbers (λ k. not (f k)) first in omega arith
rest_count f first (suc n) = let a = one_more f first n in let b = one_more (λ k. not (f k)) first n in let rest = rest_count f (first + 1) n in let one = one_or_other (f first) in omega arith
  where
    one_or_other : (b : Bool) → cond b 1 0 + cond (not b) 1 0 ≡ 1
    one_or_other true = refl
    one_or_other false = refl

both_count : (f g : ℕ → Bool) (first n : ℕ) → ((k : ℕ) → f k ≡ true → g k ≡ false) → Count (λ k. f k || g k) first n ≡ Count f first n + Count g first n
both_count f g first zero apart = let a = no_numbers f first in let b = no_numbers g first in let c = no_numbers (λ k. f k || g k) first in omega arith
both_count f g first (suc n) apart = let a = one_more f first n in let b = one_more g first n in let c = one_more (λ k. f k || g k) first n in let rest = both_count f g (first + 1) n apart in let one = sum_of (f first) (g first) (apart first) in omega arith
  where
    sum_of : (a b : Bool) → (a ≡ true → b ≡ false) → cond (a || b) 1 0 ≡ cond a 1 0 + cond b 1 0
    sum_of true b e = let none : b ≡ false = e refl in ap (λ c. 1 + cond c 1 0) (sym none)
    sum_of false b e = let same : cond b 1 0 ≡ 0 + cond b 1 0 = omega arith in same

range_count : (r : Range) (first n : ℕ) → end_of r ≤ first + n → Count (covers r) first n ≡ end_of r - max r.place first
range_count r first zero inside = let e = no_numbers (covers r) first in omega arith
range_count r first (suc n) inside =
    let step = one_more (covers r) first n in
    let rest = range_count r (first + 1) n (omega arith) in
    either (true_or_false (covers r first))
    (λ has. let both = is_in r first has in let low = both.0 in let to = both.1 in
    let one : cond (covers r first) 1 0 ≡ 1 = ap {A = Bool} {B = ℕ} (λ b. cond b 1 0) has in omega (arith, step, rest, one))
    (λ hasnt. let none : cond (covers r first) 1 0 ≡ 0 = ap {A = Bool} {B = ℕ} (λ b. cond b 1 0) hasnt in
    either (cases_lt first r.place)
    (λ before. omega arith)
    (λ from. either (cases_lt first (end_of r)) (λ to. clash (covers r first) (in_range r first from to) hasnt) (λ past. omega arith)))

whole_range : (r : Range) (n : ℕ) → end_of r ≤ n → Count (covers r) 0 n ≡ r.size
whole_range r n inside = let known = range_count r 0 n (omega arith) in omega arith

covered_words : (words : ℕ) (taken : List Range) → AreBlocks words taken → Count (is_covered taken) 0 words ≡ sum_by (λ r. r.size) taken
covered_words words [] blocks = none_count 0 words
covered_words words (r ∷ rs) blocks =
    let rest = covered_words words rs blocks.2 in let its = whole_range r words blocks.0.inside in
    let both : Count (is_covered (r ∷ rs)) 0 words ≡ Count (covers r) 0 words + Count (is_covered rs) 0 words = both_count (covers r) (is_covered rs) 0 words (uncovered r rs blocks.1) in
    let more = sum_by-cons (λ (s : Range). s.size) r rs in omega arith

same_count : (f g : ℕ → Bool) (first n : ℕ) → ((k : ℕ) → k < first + n → f k ≡ g k) → Count f first n ≡ Count g first n
same_count f g first zero same = no_numbers f first ∙ sym (no_numbers g first)
same_count f g first (suc n) same =
    one_more f first n ∙ ap (λ b. cond b 1 0 + Count f (first + 1) n) (same first (omega arith))
    ∙ ap (λ m. cond (g first) 1 0 + m) (same_count f g (first + 1) n (λ k lt. same k (omega arith))) ∙ sym (one_more g first n)

-- how many words are there
abbrev pub there : List (Option ℤ) → ℕ
there rest = count_by (λ mark. mark) (map is_some rest)

count_there : (rest : List (Option ℤ)) → there rest ≡ Count (in_rest rest) 0 (length rest)
count_there rest = ap (λ ms. count_by (λ mark. mark) ms) (marks rest) ∙ of_marks (in_rest rest) 0 (length rest)

pub there_few : (rest : List (Option ℤ)) → there rest ≤ length rest
there_few rest = let counted = count_there rest in let all = rest_count (in_rest rest) 0 (length rest) in omega arith

pub all_there : (rest : List (Option ℤ)) → ((k : ℕ) → k < length rest → in_rest rest k ≡ true) → there rest ≡ length rest
all_there rest all =
    let counted = count_there rest in let same = same_count (in_rest rest) (λ _. true) 0 (length rest) (λ k lt. all k (omega arith)) in
    let both = rest_count (λ _. true) 0 (length rest) in let none = none_count 0 (length rest) in omega arith

-- a range goes, and as many words as it has
pub there_less : (whole rest : List (Option ℤ)) (r : Range) → length rest ≡ length whole → end_of r ≤ length whole → AreParts (in_rest whole) r (in_rest rest)
    → there whole ≡ r.size + there rest
there_less whole rest r long inside parts =
    let counted = count_there whole in let left = count_there rest in
    let same = same_count (in_rest whole) (λ k. covers r k || in_rest rest k) 0 (length whole) (λ k lt. parts.all k) in
    let both = both_count (covers r) (in_rest rest) 0 (length whole) parts.apart in let its = whole_range r (length whole) inside in
    let end : Count (in_rest rest) 0 (length rest) ≡ Count (in_rest rest) 0 (length whole) = ap (λ n. Count (in_rest rest) 0 n) long in omega arith

pub free_and_taken : (words : ℕ) (taken : List Range) → AreBlocks words taken → count_by (λ mark. mark) (free_beside words taken) + sum_by (λ r. r.size) taken ≡ words
free_and_taken words taken blocks =
    let marks = of_marks (λ k. not (is_covered taken k)) 0 words in let all = rest_count (is_covered taken) 0 words in let its = covered_words words taken blocks in omega arith
