-- Plain lists: what is seen of a store is what is there, up to the mark. No memory occurs in them.
use Rattle.std.proofs.Common.{◌≡◌, ℕ, zero, suc, ◌+◌, ◌≤◌, List, [], ◌∷◌, ◌++◌, map, length, take, drop, replicate, take-append-drop, refl, sym, ap, subst, ◌∙◌, arith}
use Rattle.std.proofs.lemmas.List.{length-map, length-replicate, drop-drop}
use Rattle.std.specs.Prelude.{ℤ, pos, Option, Some, None}
use Rattle.space_raw.specs.Slots.{filled, run_of, IsRun, without, with_run}
use Rattle.space_raw.specs.Stores.{seen}

abbrev Slots : Type 0
Slots = List (Option ℤ)

pub seen_long : (w : ℕ) (cs : Slots) → length (seen w cs) ≡ length cs
seen_long w [] = refl
seen_long zero (c ∷ cs) = ap (λ (k : ℕ). suc k) (seen_long zero cs)
seen_long (suc w) (c ∷ cs) = ap (λ (k : ℕ). suc k) (seen_long w cs)

-- where all was written
pub seen_all : (cs : Slots) (w : ℕ) → w ≡ length cs → seen w cs ≡ cs
seen_all [] w e = refl
seen_all (c ∷ cs) zero e = let long : zero ≡ suc (length cs) = e in absurd (omega arith)
seen_all (c ∷ cs) (suc w) e = let long : suc w ≡ suc (length cs) = e in ap (λ (xs : Slots). c ∷ xs) (seen_all cs w (omega arith))

-- where nothing was
pub seen_none : (n : ℕ) → seen zero (replicate n None) ≡ map Some (replicate n (pos 0))
seen_none zero = refl
seen_none (suc n) = ap (λ (xs : Slots). Some (pos 0) ∷ xs) (seen_none n)

pub and_none : (xs : Slots) → xs ++ [] ≡ xs
and_none [] = refl
and_none (x ∷ xs) = ap (λ (ys : Slots). x ∷ ys) (and_none xs)

-- a run that lies before the mark
pub seen_part : (w : ℕ) (cs : Slots) (p n : ℕ) → p + n ≤ w → take n (drop p (seen w cs)) ≡ take n (drop p cs)
seen_part w cs p zero le = refl
seen_part w [] p (suc n) le = refl
seen_part zero (c ∷ cs) p (suc n) le = absurd (omega arith)
seen_part (suc w) (c ∷ cs) zero (suc n) le = ap (λ (xs : Slots). c ∷ xs) (seen_part w cs zero n (omega arith))
seen_part (suc w) (c ∷ cs) (suc p) (suc n) le = seen_part w cs p (suc n) (omega arith)

module _ (w : ℕ) (cs : Slots) (p n : ℕ) (le : p + n ≤ w) where
  pub there_is : IsRun (seen w cs) p n → IsRun cs p n
  there_is there = (subst (λ (xs : Slots). xs ≡ map Some (filled xs)) (seen_part w cs p n le) there.0, omega (arith, there.1, seen_long w cs))

  pub run_is : run_of (seen w cs) p n ≡ run_of cs p n
  run_is = ap filled (seen_part w cs p n le)

-- other slots in place of some that lie before the mark
around : (w : ℕ) (cs : Slots) (p : ℕ) (xs : Slots) (r : ℕ) → r ≡ p + length xs → r ≤ w → w ≤ length cs → seen w (take p cs ++ (xs ++ drop r cs)) ≡ take p (seen w cs) ++ (xs ++ drop r (seen w cs))
around w [] (suc p) xs r e le inside = let l : w ≤ 0 = inside in absurd (omega arith)
around w [] zero (x ∷ xs) r e le inside = let l : w ≤ 0 = inside in let long : r ≡ zero + suc (length xs) = e in absurd (omega arith)
around w [] zero [] zero e le inside = refl
around w [] zero [] (suc r) e le inside = let none : suc r ≡ 0 = e in absurd (omega arith)
around zero (c ∷ cs) (suc p) xs r e le inside = absurd (omega arith)
around (suc w) (c ∷ cs) (suc p) xs zero e le inside = absurd (omega arith)
around (suc w) (c ∷ cs) (suc p) xs (suc r) e le inside = let l : suc w ≤ suc (length cs) = inside in ap (λ (ys : Slots). c ∷ ys) (around w cs p xs r (omega arith) (omega arith) (omega arith))
around w (c ∷ cs) zero [] zero e le inside = refl
around w (c ∷ cs) zero [] (suc r) e le inside = let none : suc r ≡ 0 = e in absurd (omega arith)
around w (c ∷ cs) zero (x ∷ xs) zero e le inside = let long : zero ≡ zero + suc (length xs) = e in absurd (omega arith)
around zero (c ∷ cs) zero (x ∷ xs) (suc r) e le inside = absurd (omega arith)
around (suc w) (c ∷ cs) zero (x ∷ xs) (suc r) e le inside = let l : suc w ≤ suc (length cs) = inside in let long : suc r ≡ zero + suc (length xs) = e in
    ap (λ (ys : Slots). x ∷ ys) (around w cs zero xs r (omega arith) (omega arith) (omega arith))

pub seen_without : (w : ℕ) (cs : Slots) (p n : ℕ) → p + n ≤ w → w ≤ length cs → seen w (without cs p n) ≡ without (seen w cs) p n
seen_without w cs p n le inside = around w cs p (replicate n None) (p + n) (ap (λ (k : ℕ). p + k) (sym (length-replicate n None))) le inside

pub seen_with : (w : ℕ) (cs : Slots) (p : ℕ) (ws : List ℤ) → p + length ws ≤ w → w ≤ length cs → seen w (with_run cs p ws) ≡ with_run (seen w cs) p ws
seen_with w cs p ws le inside = around w cs p (map Some ws) (p + length ws) (ap (λ (k : ℕ). p + k) (sym (length-map ws Some))) le inside

-- the mark moves up behind zeros
more : (cs : Slots) (w n r : ℕ) → r ≡ w + n → r ≤ length cs → seen r (take w cs ++ (map Some (replicate n (pos 0)) ++ drop r cs)) ≡ seen w cs
more [] (suc w) n r e le = let l : r ≤ 0 = le in absurd (omega arith)
more [] zero (suc n) r e le = let l : r ≤ 0 = le in absurd (omega arith)
more [] zero zero zero e le = refl
more [] zero zero (suc r) e le = absurd (omega arith)
more (c ∷ cs) (suc w) n zero e le = absurd (omega arith)
more (c ∷ cs) (suc w) n (suc r) e le = let l : suc r ≤ suc (length cs) = le in ap (λ (xs : Slots). c ∷ xs) (more cs w n r (omega arith) (omega arith))
more (c ∷ cs) zero (suc n) zero e le = absurd (omega arith)
more (c ∷ cs) zero (suc n) (suc r) e le = let l : suc r ≤ suc (length cs) = le in ap (λ (xs : Slots). Some (pos 0) ∷ xs) (more cs zero n r (omega arith) (omega arith))
more (c ∷ cs) zero zero zero e le = refl
more (c ∷ cs) zero zero (suc r) e le = absurd (omega arith)

pub seen_more : (cs : Slots) (w n r : ℕ) → r ≡ w + n → r ≤ length cs → seen r (with_run cs w (replicate n (pos 0))) ≡ seen w cs
seen_more cs w n r e le =
    ap (λ (k : ℕ). seen r (take w cs ++ (map Some (replicate n (pos 0)) ++ drop k cs))) {x = w + length (replicate n (pos 0))} (omega (arith, length-replicate n (pos 0))) ∙ more cs w n r e le

-- no word leaves
pub without_none : (cs : Slots) (p : ℕ) → without cs p 0 ≡ cs
without_none cs p = ap (λ (k : ℕ). take p cs ++ drop k cs) {x = p + 0} (omega arith) ∙ take-append-drop p cs

filled_short : (cs : Slots) → length (filled cs) ≤ length cs
filled_short [] = omega arith
filled_short (Some w ∷ cs) = let l = filled_short cs in let more : suc (length (filled cs)) ≤ suc (length cs) = omega (arith, l) in more
filled_short (None ∷ cs) = let l = filled_short cs in let more : length (filled cs) ≤ suc (length cs) = omega (arith, l) in more

-- one that is away is no word of a run
no_run : (cs : Slots) → None ∷ cs ≡ map Some (filled cs) → ⊥
no_run cs e = let long : suc (length cs) ≡ length (map Some (filled cs)) = ap length e in omega (arith, long, length-map (filled cs) Some, filled_short cs)

-- a shorter run
shorter : (xs : Slots) (m n : ℕ) → m ≤ n → take n xs ≡ map Some (filled (take n xs)) → take m xs ≡ map Some (filled (take m xs))
shorter xs zero n le e = refl
shorter [] (suc m) n le e = refl
shorter (x ∷ xs) (suc m) zero le e = absurd (omega arith)
shorter (Some x ∷ xs) (suc m) (suc n) le e = ap (λ (ys : Slots). Some x ∷ ys) (shorter xs m n (omega arith) (ap (λ (ys : Slots). drop (suc zero) ys) e))
shorter (None ∷ xs) (suc m) (suc n) le e = absurd (no_run (take n xs) e)

pub first_run : (cs : Slots) (p m n : ℕ) → m ≤ n → IsRun cs p n → IsRun cs p m
first_run cs p m n le there = (shorter (drop p cs) m n le there.0, omega (arith, there.1))

-- of two words the second
second : (xs : Slots) → take 2 xs ≡ map Some (filled (take 2 xs)) → take 1 (drop 1 xs) ≡ map Some (filled (take 1 (drop 1 xs)))
second [] e = refl
second (Some x ∷ xs) e = ap (λ (ys : Slots). drop (suc zero) ys) e
second (None ∷ xs) e = absurd (no_run (take 1 xs) e)

pub second_run : (cs : Slots) (p : ℕ) → IsRun cs p 2 → IsRun cs (p + 1) 1
second_run cs p there = (subst (λ (xs : Slots). take 1 xs ≡ map Some (filled (take 1 xs))) (drop-drop 1 p cs) (second (drop p cs) there.0), omega (arith, there.1))

both : (xs : Slots) → filled (take 2 xs) ≡ filled (take 1 xs) ++ filled (take 1 (drop 1 xs))
both [] = refl
both (Some x ∷ xs) = refl
both (None ∷ xs) = refl

pub both_words : (cs : Slots) (p : ℕ) (x y : ℤ) → run_of cs p 1 ≡ x ∷ [] → run_of cs (p + 1) 1 ≡ y ∷ [] → run_of cs p 2 ≡ x ∷ y ∷ []
both_words cs p x y e f = both (drop p cs) ∙ (λ i. filled (take 1 (drop p cs)) ++ filled (take 1 (drop-drop 1 p cs i))) ∙ (λ i. e i ++ f i)

-- a word behind the mark
pub unwritten : (w : ℕ) (cs : Slots) (p : ℕ) → w ≤ p → p + 1 ≤ length cs → run_of (seen w cs) p 1 ≡ pos 0 ∷ []
unwritten w [] p le inside = let l : p + 1 ≤ 0 = inside in absurd (omega arith)
unwritten zero (c ∷ cs) zero le inside = refl
unwritten zero (c ∷ cs) (suc p) le inside = let l : suc p + 1 ≤ suc (length cs) = inside in unwritten zero cs p (omega arith) (omega arith)
unwritten (suc w) (c ∷ cs) zero le inside = absurd (omega arith)
unwritten (suc w) (c ∷ cs) (suc p) le inside = let l : suc p + 1 ≤ suc (length cs) = inside in unwritten w cs p (omega arith) (omega arith)

filled_words : (ws : List ℤ) (n : ℕ) → n ≡ length ws → filled (take n (map Some ws)) ≡ ws
filled_words [] zero e = refl
filled_words [] (suc n) e = let none : suc n ≡ 0 = e in absurd (omega arith)
filled_words (w ∷ ws) zero e = let long : zero ≡ suc (length ws) = e in absurd (omega arith)
filled_words (w ∷ ws) (suc n) e = let long : suc n ≡ suc (length ws) = e in ap (λ (xs : List ℤ). w ∷ xs) (filled_words ws n (omega arith))

-- all words as one run
pub all_words : (ws : List ℤ) → run_of (map Some ws) 0 (length (map Some ws)) ≡ ws
all_words ws = filled_words ws (length (map Some ws)) (length-map ws Some)

all_taken : (xs : Slots) → take (length xs) xs ≡ xs
all_taken [] = refl
all_taken (x ∷ xs) = ap (λ (ys : Slots). x ∷ ys) (all_taken xs)

pub all_run : (ws : List ℤ) → IsRun (map Some ws) 0 (length (map Some ws))
all_run ws = (all_taken (map Some ws) ∙ ap (λ (xs : List ℤ). map Some xs) (sym (all_words ws)), omega arith)
