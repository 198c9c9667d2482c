-- How many words there are, and how many slots, after a run of them has left, come back or been written.
use Rattle.std.proofs.Common.{◌≡◌, ℕ, ◌+◌, ◌≤◌, List, ◌++◌, map, length, get_or, take, drop, replicate, length-append, length-take, length-drop, zero, suc, [], ◌∷◌, refl, sym, ap, subst, ◌∙◌, arith, inl, inr}
use Rattle.std.proofs.lemmas.List.{length-map, length-replicate}
use Rattle.std.specs.Prelude.{ℤ, Option, Some, None, ◌⊎◌}
use Rattle.std.specs.List.{refill, length_refill}
use Rattle.space_raw.specs.Slots.{filled, run_of, IsRun, without, with_run}
use Rattle.space_raw.proofs.Marks.{held, rewritten_held}

pub run_long : (cs : List (Option ℤ)) (place n : ℕ) → IsRun cs place n → n ≡ length (run_of cs place n)
run_long cs place n is =
    let inside = is.1 in let cut = length-drop place cs in let taken = length-take n (drop place cs) in
    let same = ap length is.0 in let shown = length-map (run_of cs place n) Some in omega arith

pub without_long : (cs : List (Option ℤ)) (place n : ℕ) → place + n ≤ length cs → length (without cs place n) ≡ length cs
without_long cs place n inside =
    let none : Option ℤ = None in let behind = drop (place + n) cs in let all = length-append (take place cs) (replicate n none ++ behind) in let last = length-append (replicate n none) behind in
    let front = length-take place cs in let gap = length-replicate n none in let end = length-drop (place + n) cs in omega arith

pub with_long : (cs : List (Option ℤ)) (place : ℕ) (ws : List ℤ) → place + length ws ≤ length cs → length (with_run cs place ws) ≡ length cs
with_long cs place ws inside =
    let behind = drop (place + length ws) cs in let all = length-append (take place cs) (map Some ws ++ behind) in let last = length-append (map Some ws) behind in
    let front = length-take place cs in let run = length-map ws Some in let end = length-drop (place + length ws) cs in omega arith

-- a run that is there, written over
module _ (cs : List (Option ℤ)) (place n : ℕ) (xs : List ℤ) (there : IsRun cs place n) where
  abbrev now : List ℤ
  now = refill n (run_of cs place n) xs

  now_long : n ≡ length now
  now_long = length_refill n (run_of cs place n) xs (run_long cs place n there)

  pub rewritten_long : length (with_run cs place now) ≡ length cs
  rewritten_long = let long = now_long in with_long cs place now (omega (arith, there.1))

  pub rewritten_places : held (with_run cs place now) ≡ held cs
  rewritten_places = let long = now_long in
      rewritten_held cs place now (run_of cs place n) (place + length now) refl (omega (arith, there.1)) (subst (λ k. take k (drop place cs) ≡ map Some (run_of cs place n)) now_long there.0)

abbrev Slots : Type 0
Slots = List (Option ℤ)

-- what lies before or behind the written words stays
stays_before : (cs : Slots) (p : ℕ) (xs : Slots) (q m : ℕ) → q + m ≤ p → p ≤ length cs → take m (drop q (take p cs ++ xs)) ≡ take m (drop q cs)
stays_before cs p xs zero zero le inside = refl
stays_before cs zero xs zero (suc m) le inside = absurd (omega arith)
stays_before cs zero xs (suc q) m le inside = absurd (omega arith)
stays_before [] (suc p) xs q m le inside = let l : suc p ≤ 0 = inside in absurd (omega arith)
stays_before (c ∷ cs) (suc p) xs zero (suc m) le inside = let l : suc p ≤ suc (length cs) = inside in ap (λ (ys : Slots). c ∷ ys) (stays_before cs p xs zero m (omega arith) (omega arith))
stays_before (c ∷ cs) (suc p) xs (suc q) m le inside = let l : suc p ≤ suc (length cs) = inside in stays_before cs p xs q m (omega arith) (omega arith)

stays_behind : (cs : Slots) (p : ℕ) (ws : List ℤ) (r q m : ℕ) → r ≡ p + length ws → r ≤ length cs → r ≤ q → take m (drop q (take p cs ++ (map Some ws ++ drop r cs))) ≡ take m (drop q cs)
stays_behind [] (suc p) ws r q m e inside le = let l : r ≤ 0 = inside in absurd (omega arith)
stays_behind [] zero (w ∷ ws) r q m e inside le = let l : r ≤ 0 = inside in let long : r ≡ zero + suc (length ws) = e in absurd (omega arith)
stays_behind [] zero [] zero q m e inside le = refl
stays_behind [] zero [] (suc r) q m e inside le = let l : suc r ≤ 0 = inside in absurd (omega arith)
stays_behind (c ∷ cs) (suc p) ws zero q m e inside le = absurd (omega arith)
stays_behind (c ∷ cs) (suc p) ws (suc r) zero m e inside le = absurd (omega arith)
stays_behind (c ∷ cs) (suc p) ws (suc r) (suc q) m e inside le = let l : suc r ≤ suc (length cs) = inside in stays_behind cs p ws r q m (omega arith) (omega arith) (omega arith)
stays_behind (c ∷ cs) zero [] zero q m e inside le = refl
stays_behind (c ∷ cs) zero [] (suc r) q m e inside le = let none : suc r ≡ 0 = e in absurd (omega arith)
stays_behind (c ∷ cs) zero (w ∷ ws) zero q m e inside le = let long : zero ≡ zero + suc (length ws) = e in absurd (omega arith)
stays_behind (c ∷ cs) zero (w ∷ ws) (suc r) zero m e inside le = absurd (omega arith)
stays_behind (c ∷ cs) zero (w ∷ ws) (suc r) (suc q) m e inside le = let l : suc r ≤ suc (length cs) = inside in let long : suc r ≡ zero + suc (length ws) = e in
    stays_behind cs zero ws r q m (omega arith) (omega arith) (omega arith)

-- a run that shares no place with the written words
module _ (cs : Slots) (p : ℕ) (ws : List ℤ) (q m : ℕ) (inside : p + length ws ≤ length cs) where
  elsewhere : (q + m ≤ p) ⊎ (p + length ws ≤ q) → take m (drop q (with_run cs p ws)) ≡ take m (drop q cs)
  elsewhere (inl before) = stays_before cs p (map Some ws ++ drop (p + length ws) cs) q m before (omega arith)
  elsewhere (inr behind) = stays_behind cs p ws (p + length ws) q m refl inside behind

  pub run_elsewhere : (q + m ≤ p) ⊎ (p + length ws ≤ q) → run_of (with_run cs p ws) q m ≡ run_of cs q m
  run_elsewhere apart = ap filled (elsewhere apart)

-- a run that left and came back
returned : (cs : Slots) (p n : ℕ) (ws : List ℤ) (r : ℕ) → n ≡ length ws → r ≡ p + n → r ≤ length cs → take n (drop p cs) ≡ map Some ws
    → take p (take p cs ++ (replicate n None ++ drop r cs)) ++ (map Some ws ++ drop r (take p cs ++ (replicate n None ++ drop r cs))) ≡ cs
returned [] (suc p) n ws r long e le there = let l : r ≤ 0 = le in absurd (omega arith)
returned [] zero (suc n) ws r long e le there = let l : r ≤ 0 = le in absurd (omega arith)
returned [] zero zero ws (suc r) long e le there = absurd (omega arith)
returned [] zero zero (w ∷ ws) zero long e le there = let more : zero ≡ suc (length ws) = long in absurd (omega arith)
returned [] zero zero [] zero long e le there = refl
returned (c ∷ cs) (suc p) n ws zero long e le there = absurd (omega arith)
returned (c ∷ cs) (suc p) n ws (suc r) long e le there = let l : suc r ≤ suc (length cs) = le in ap (λ (xs : Slots). c ∷ xs) (returned cs p n ws r long (omega arith) (omega arith) there)
returned (c ∷ cs) zero zero ws (suc r) long e le there = absurd (omega arith)
returned (c ∷ cs) zero zero (w ∷ ws) zero long e le there = let more : zero ≡ suc (length ws) = long in absurd (omega arith)
returned (c ∷ cs) zero zero [] zero long e le there = refl
returned (c ∷ cs) zero (suc n) ws zero long e le there = absurd (omega arith)
returned (c ∷ cs) zero (suc n) [] (suc r) long e le there = let more : suc n ≡ 0 = long in absurd (omega arith)
returned (c ∷ cs) zero (suc n) (w ∷ ws) (suc r) long e le there =
    let l : suc r ≤ suc (length cs) = le in let more : suc n ≡ suc (length ws) = long in
    let first : c ≡ Some w = ap (λ (xs : Slots). get_or xs zero None) there in
    let others = returned cs zero n ws r (omega arith) (omega arith) (omega arith) (ap (λ (xs : Slots). drop (suc zero) xs) there) in
    ap (λ (y : Option ℤ). y ∷ (map Some ws ++ drop r (replicate n None ++ drop r cs))) (sym first) ∙ ap (λ (xs : Slots). c ∷ xs) others

pub run_returned : (cs : Slots) (p n : ℕ) → IsRun cs p n → with_run (without cs p n) p (run_of cs p n) ≡ cs
run_returned cs p n there =
    let run = run_of cs p n in let long = run_long cs p n there in let gone = without cs p n in
    ap (λ k. take p gone ++ (map Some run ++ drop (p + k) gone)) (sym long) ∙ returned cs p n run (p + n) long refl there.1 there.0
