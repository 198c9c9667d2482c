-- The marks of ranges, and of the words that no piece holds.
use Rattle.std.proofs.Common.{◌≡◌, ℕ, zero, suc, ◌+◌, ◌-◌, ◌<◌, ◌≤◌, List, [], ◌∷◌, ◌++◌, map, length, get_or, take, drop, replicate, refl, sym, ap, ◌∙◌, arith, inl, inr}
use Rattle.std.proofs.lemmas.Bool.{cases_lt, false≢true}
use Rattle.std.proofs.lemmas.List.{length-map}
use Rattle.std.proofs.lemmas.Option.{none-some}
use Rattle.std.specs.Prelude.{ℤ, Bool, true, false, Option, Some, None, is_some, ◌⊎◌}
use Rattle.space_raw.specs.Marks.{within, outside, union, Disjoint, range_marks}
use Rattle.space_raw.specs.Span.{Span, Apart}
use Rattle.space_raw.specs.Slots.{IsAway, without, with_run}

abbrev all : ℕ → List Bool
all n = replicate n true

pub length_within : (p n : ℕ) (ms : List Bool) → length (within p n ms) ≡ length ms
length_within p n [] = refl
length_within (suc p) n (m ∷ ms) = ap suc (length_within p n ms)
length_within zero (suc n) (m ∷ ms) = ap suc (length_within zero n ms)
length_within zero zero (m ∷ ms) = ap suc (length_within zero zero ms)

pub length_outside : (p n : ℕ) (ms : List Bool) → length (outside p n ms) ≡ length ms
length_outside p n [] = refl
length_outside (suc p) n (m ∷ ms) = ap suc (length_outside p n ms)
length_outside zero (suc n) (m ∷ ms) = ap suc (length_outside zero n ms)
length_outside zero zero (m ∷ ms) = refl

pub length_union : (ms ns : List Bool) → length ns ≡ length ms → length (union ms ns) ≡ length ms
length_union [] ns e = e
length_union (m ∷ ms) [] e = refl
length_union (true ∷ ms) (n ∷ ns) e = let more : suc (length ns) ≡ suc (length ms) = e in ap suc (length_union ms ns (omega arith))
length_union (false ∷ ms) (n ∷ ns) e = let more : suc (length ns) ≡ suc (length ms) = e in ap suc (length_union ms ns (omega arith))

-- the front of a range
pub within_within : (ms : List Bool) (p n l : ℕ) → n ≤ l → within p n (within p l ms) ≡ within p n ms
within_within [] p n l le = refl
within_within (m ∷ ms) (suc p) n l le = ap (λ xs. false ∷ xs) (within_within ms p n l le)
within_within (m ∷ ms) zero zero zero le = ap (λ xs. false ∷ xs) (within_within ms zero zero zero le)
within_within (m ∷ ms) zero zero (suc l) le = ap (λ xs. false ∷ xs) (within_within ms zero zero l (omega arith))
within_within (m ∷ ms) zero (suc n) zero le = absurd (omega arith)
within_within (m ∷ ms) zero (suc n) (suc l) le = ap (λ xs. m ∷ xs) (within_within ms zero n l (omega arith))

-- what is left behind it, from q on
pub outside_within : (ms : List Bool) (p n l q m : ℕ) → q ≡ p + n → l ≡ n + m → outside p n (within p l ms) ≡ within q m ms
outside_within [] p n l q m e f = refl
outside_within (x ∷ ms) (suc p) n l zero m e f = absurd (omega arith)
outside_within (x ∷ ms) (suc p) n l (suc q) m e f = ap (λ xs. false ∷ xs) (outside_within ms p n l q m (omega arith) f)
outside_within (x ∷ ms) zero (suc n) zero q m e f = absurd (omega arith)
outside_within (x ∷ ms) zero (suc n) (suc l) zero m e f = absurd (omega arith)
outside_within (x ∷ ms) zero (suc n) (suc l) (suc q) m e f = ap (λ xs. false ∷ xs) (outside_within ms zero n l q m (omega arith) (omega arith))
outside_within (x ∷ ms) zero zero l (suc q) m e f = absurd (omega arith)
outside_within (x ∷ ms) zero zero zero zero zero e f = refl
outside_within (x ∷ ms) zero zero (suc l) zero zero e f = absurd (omega arith)
outside_within (x ∷ ms) zero zero zero zero (suc m) e f = absurd (omega arith)
outside_within (x ∷ ms) zero zero (suc l) zero (suc m) e f = let same : l ≡ m = omega arith in ap (λ k. x ∷ within zero k ms) same

-- two ranges side by side
pub union_within : (ms : List Bool) (p n q m l : ℕ) → q ≡ p + n → l ≡ n + m → union (within p n ms) (within q m ms) ≡ within p l ms
union_within [] p n q m l e f = refl
union_within (x ∷ ms) (suc p) n zero m l e f = absurd (omega arith)
union_within (x ∷ ms) (suc p) n (suc q) m l e f = ap (λ xs. false ∷ xs) (union_within ms p n q m l (omega arith) f)
union_within (x ∷ ms) zero (suc n) zero m l e f = absurd (omega arith)
union_within (x ∷ ms) zero (suc n) (suc q) m zero e f = absurd (omega arith)
union_within (true ∷ ms) zero (suc n) (suc q) m (suc l) e f = ap (λ xs. true ∷ xs) (union_within ms zero n q m l (omega arith) (omega arith))
union_within (false ∷ ms) zero (suc n) (suc q) m (suc l) e f = ap (λ xs. false ∷ xs) (union_within ms zero n q m l (omega arith) (omega arith))
union_within (x ∷ ms) zero zero (suc q) m l e f = absurd (omega arith)
union_within (x ∷ ms) zero zero zero zero (suc l) e f = absurd (omega arith)
union_within (x ∷ ms) zero zero zero (suc m) zero e f = absurd (omega arith)
union_within (x ∷ ms) zero zero zero zero zero e f = ap (λ xs. false ∷ xs) (union_within ms zero zero zero zero zero refl refl)
union_within (x ∷ ms) zero zero zero (suc m) (suc l) e f = ap (λ xs. x ∷ xs) (union_within ms zero zero zero m l refl (omega arith))

-- the places of a piece, cut after n of its words
module _ (ms xs : List Bool) (p n l : ℕ) (le : n ≤ l) (are : ms ≡ range_marks (length ms) p l) where
  pub front_places : xs ≡ within p n ms → xs ≡ range_marks (length xs) p n
  front_places e =
      e ∙ ap (λ zs. within p n zs) are ∙ within_within (all (length ms)) p n l le ∙ ap (λ k. range_marks k p n) (sym (ap length e ∙ length_within p n ms))

  pub back_places : xs ≡ outside p n ms → xs ≡ range_marks (length xs) (p + n) (l - n)
  back_places e =
      e ∙ ap (λ zs. outside p n zs) are ∙ outside_within (all (length ms)) p n l (p + n) (l - n) refl (omega arith)
      ∙ ap (λ k. range_marks k (p + n) (l - n)) (sym (ap length e ∙ length_outside p n ms))

-- the places of two pieces side by side
pub joined_places : (ms ns xs : List Bool) (p n q m : ℕ) → q ≡ p + n → length ns ≡ length ms → ms ≡ range_marks (length ms) p n → ns ≡ range_marks (length ns) q m → xs ≡ union ms ns → xs ≡ range_marks (length xs) p (n + m)
joined_places ms ns xs p n q m e same here there made =
    made ∙ ap (λ zs. union zs ns) here ∙ ap (λ zs. union (range_marks (length ms) p n) zs) (there ∙ ap (λ k. range_marks k q m) same)
    ∙ union_within (all (length ms)) p n q m (n + m) e refl ∙ ap (λ k. range_marks k p (n + m)) (sym (ap length made ∙ length_union ms ns same))

abbrev Slots : Type 0
Slots = List (Option ℤ)

-- the marks of the words that are there
abbrev pub held : Slots → List Bool
held cs = map is_some cs

-- a run of them
pub within_held : (cs : Slots) (p n : ℕ) (ws : List ℤ) → take n (drop p cs) ≡ map Some ws → within p n (held cs) ≡ range_marks (length cs) p n
within_held [] p n ws e = refl
within_held (c ∷ cs) (suc p) n ws e = ap (λ xs. false ∷ xs) (within_held cs p n ws e)
within_held (c ∷ cs) zero zero ws e = ap (λ xs. false ∷ xs) (within_held cs zero zero [] refl)
within_held (c ∷ cs) zero (suc n) [] e = let none : suc (length (take n cs)) ≡ 0 = ap length e in absurd (omega arith)
within_held (None ∷ cs) zero (suc n) (w ∷ ws) e = absurd (none-some w (ap (λ (l : Slots). get_or l zero None) e))
within_held (Some x ∷ cs) zero (suc n) (w ∷ ws) e = ap (λ xs. true ∷ xs) (within_held cs zero n ws (ap (λ (l : Slots). drop (suc zero) l) e))

-- what is there without n of them
pub outside_held : (cs : Slots) (p n q : ℕ) → q ≡ p + n → q ≤ length cs → outside p n (held cs) ≡ held (take p cs ++ (replicate n None ++ drop q cs))
outside_held [] (suc p) n q e le = let l : q ≤ 0 = le in absurd (omega arith)
outside_held [] zero (suc n) q e le = let l : q ≤ 0 = le in absurd (omega arith)
outside_held [] zero zero (suc q) e le = absurd (omega arith)
outside_held [] zero zero zero e le = refl
outside_held (c ∷ cs) (suc p) n zero e le = absurd (omega arith)
outside_held (c ∷ cs) (suc p) n (suc q) e le = let l : suc q ≤ suc (length cs) = le in ap (λ xs. is_some c ∷ xs) (outside_held cs p n q (omega arith) (omega arith))
outside_held (c ∷ cs) zero (suc n) zero e le = absurd (omega arith)
outside_held (c ∷ cs) zero (suc n) (suc q) e le = let l : suc q ≤ suc (length cs) = le in ap (λ xs. false ∷ xs) (outside_held cs zero n q (omega arith) (omega arith))
outside_held (c ∷ cs) zero zero (suc q) e le = absurd (omega arith)
outside_held (c ∷ cs) zero zero zero e le = refl

-- what is there with the words ws
pub union_held : (cs : Slots) (p : ℕ) (ws : List ℤ) (n q : ℕ) → n ≡ length ws → q ≡ p + n → q ≤ length cs → union (held cs) (range_marks (length cs) p n) ≡ held (take p cs ++ (map Some ws ++ drop q cs))
union_held [] (suc p) ws n q f e le = let l : q ≤ 0 = le in absurd (omega arith)
union_held [] zero ws (suc n) q f e le = let l : q ≤ 0 = le in absurd (omega arith)
union_held [] zero ws zero (suc q) f e le = absurd (omega arith)
union_held [] zero (w ∷ ws) zero zero f e le = let long : 0 ≡ suc (length ws) = f in absurd (omega arith)
union_held [] zero [] zero zero f e le = refl
union_held (c ∷ cs) (suc p) ws n zero f e le = absurd (omega arith)
union_held (Some x ∷ cs) (suc p) ws n (suc q) f e le = let l : suc q ≤ suc (length cs) = le in ap (λ xs. true ∷ xs) (union_held cs p ws n q f (omega arith) (omega arith))
union_held (None ∷ cs) (suc p) ws n (suc q) f e le = let l : suc q ≤ suc (length cs) = le in ap (λ xs. false ∷ xs) (union_held cs p ws n q f (omega arith) (omega arith))
union_held (c ∷ cs) zero ws (suc n) zero f e le = absurd (omega arith)
union_held (c ∷ cs) zero [] (suc n) (suc q) f e le = let long : suc n ≡ 0 = f in absurd (omega arith)
union_held (Some x ∷ cs) zero (w ∷ ws) (suc n) (suc q) f e le = let l : suc q ≤ suc (length cs) = le in let long : suc n ≡ suc (length ws) = f in ap (λ xs. true ∷ xs) (union_held cs zero ws n q (omega arith) (omega arith) (omega arith))
union_held (None ∷ cs) zero (w ∷ ws) (suc n) (suc q) f e le = let l : suc q ≤ suc (length cs) = le in let long : suc n ≡ suc (length ws) = f in ap (λ xs. true ∷ xs) (union_held cs zero ws n q (omega arith) (omega arith) (omega arith))
union_held (c ∷ cs) zero ws zero (suc q) f e le = absurd (omega arith)
union_held (c ∷ cs) zero (w ∷ ws) zero zero f e le = let long : 0 ≡ suc (length ws) = f in absurd (omega arith)
union_held (Some x ∷ cs) zero [] zero zero f e le = ap (λ xs. true ∷ xs) (union_held cs zero [] zero zero refl refl (omega arith))
union_held (None ∷ cs) zero [] zero zero f e le = ap (λ xs. false ∷ xs) (union_held cs zero [] zero zero refl refl (omega arith))

-- all words are there
pub all_held : (ws : List ℤ) (n : ℕ) → n ≡ length ws → range_marks n zero n ≡ held (map Some ws)
all_held [] zero e = refl
all_held [] (suc n) e = let long : suc n ≡ 0 = e in absurd (omega arith)
all_held (w ∷ ws) zero e = let long : 0 ≡ suc (length ws) = e in absurd (omega arith)
all_held (w ∷ ws) (suc n) e = let long : suc n ≡ suc (length ws) = e in ap (λ xs. true ∷ xs) (all_held ws n (omega arith))

-- other words in place of a run that is there
pub rewritten_held : (cs : Slots) (p : ℕ) (ws vs : List ℤ) (q : ℕ) → q ≡ p + length ws → q ≤ length cs → take (length ws) (drop p cs) ≡ map Some vs → held (take p cs ++ (map Some ws ++ drop q cs)) ≡ held cs
rewritten_held [] (suc p) ws vs q e le there = let l : q ≤ 0 = le in absurd (omega arith)
rewritten_held [] zero (w ∷ ws) vs q e le there = let l : q ≤ 0 = le in let long : q ≡ zero + suc (length ws) = e in absurd (omega arith)
rewritten_held [] zero [] vs zero e le there = refl
rewritten_held [] zero [] vs (suc q) e le there = let l : suc q ≤ 0 = le in absurd (omega arith)
rewritten_held (c ∷ cs) (suc p) ws vs zero e le there = absurd (omega arith)
rewritten_held (c ∷ cs) (suc p) ws vs (suc q) e le there = let l : suc q ≤ suc (length cs) = le in ap (λ xs. is_some c ∷ xs) (rewritten_held cs p ws vs q (omega arith) (omega arith) there)
rewritten_held (c ∷ cs) zero [] vs zero e le there = refl
rewritten_held (c ∷ cs) zero [] vs (suc q) e le there = let none : suc q ≡ 0 = e in absurd (omega arith)
rewritten_held (c ∷ cs) zero (w ∷ ws) vs zero e le there = let long : zero ≡ zero + suc (length ws) = e in absurd (omega arith)
rewritten_held (c ∷ cs) zero (w ∷ ws) [] (suc q) e le there = let none : suc (length (take (length ws) cs)) ≡ 0 = ap length there in absurd (omega arith)
rewritten_held (None ∷ cs) zero (w ∷ ws) (v ∷ vs) (suc q) e le there = absurd (none-some v (ap (λ (l : Slots). get_or l zero None) there))
rewritten_held (Some x ∷ cs) zero (w ∷ ws) (v ∷ vs) (suc q) e le there = let l : suc q ≤ suc (length cs) = le in let long : suc q ≡ zero + suc (length ws) = e in
    ap (λ xs. true ∷ xs) (rewritten_held cs zero ws vs q (omega arith) (omega arith) (ap (λ (l : Slots). drop (suc zero) l) there))

-- the places of a rest, and of a piece that leaves it or comes back
module _ (cs : Slots) (ms xs : List Bool) (p n : ℕ) (are : ms ≡ held cs) where
  pub carved_places : (ws : List ℤ) → take n (drop p cs) ≡ map Some ws → xs ≡ within p n ms → xs ≡ range_marks (length xs) p n
  carved_places ws there e =
      e ∙ ap (λ zs. within p n zs) are ∙ within_held cs p n ws there
      ∙ ap (λ k. range_marks k p n) (sym (ap length e ∙ length_within p n ms ∙ ap length are ∙ length-map cs is_some))

  pub left_places : p + n ≤ length cs → xs ≡ outside p n ms → xs ≡ held (without cs p n)
  left_places le e = e ∙ ap (λ zs. outside p n zs) are ∙ outside_held cs p n (p + n) refl le

  pub absorbed_places : (ns : List Bool) (ws : List ℤ) → n ≡ length ws → p + n ≤ length cs → length ns ≡ length cs → ns ≡ range_marks (length ns) p n → xs ≡ union ms ns → xs ≡ held (with_run cs p ws)
  absorbed_places ns ws long le same there e =
      e ∙ ap (λ zs. union zs ns) are ∙ ap (λ zs. union (held cs) zs) (there ∙ ap (λ k. range_marks k p n) same)
      ∙ union_held cs p ws n (p + length ws) long (omega arith) (omega arith)

-- no place is marked in both of two lists that are disjoint
clash : (ms ns : List Bool) (k : ℕ) → Disjoint ms ns → get_or ms k false ≡ true → get_or ns k false ≡ true → ⊥
clash [] ns k d e f = false≢true e
clash (true ∷ ms) [] k d e f = false≢true f
clash (false ∷ ms) [] k d e f = false≢true f
clash (true ∷ ms) (true ∷ ns) k d e f = d
clash (true ∷ ms) (false ∷ ns) zero d e f = false≢true f
clash (true ∷ ms) (false ∷ ns) (suc k) d e f = clash ms ns k d e f
clash (false ∷ ms) (n ∷ ns) zero d e f = false≢true e
clash (false ∷ ms) (n ∷ ns) (suc k) d e f = clash ms ns k d e f

marked : (size p n k : ℕ) → p ≤ k → k < p + n → k < size → get_or (range_marks size p n) k false ≡ true
marked zero p n k le lt small = absurd (omega arith)
marked (suc size) (suc p) n zero le lt small = absurd (omega arith)
marked (suc size) (suc p) n (suc k) le lt small = marked size p n k (omega arith) (omega arith) (omega arith)
marked (suc size) zero zero k le lt small = absurd (omega arith)
marked (suc size) zero (suc n) zero le lt small = refl
marked (suc size) zero (suc n) (suc k) le lt small = marked size zero n k (omega arith) (omega arith) (omega arith)

either : {A B X : Type 0} → A ⊎ B → (A → X) → (B → X) → X
either (inl a) f g = f a
either (inr b) f g = g b

-- pieces whose places are disjoint lie behind one another
pub pieces_apart : (s t : Span) (ms ns : List Bool) (size p n q m : ℕ) → p ≡ s.place → n ≡ length s.words → q ≡ t.place → m ≡ length t.words → ms ≡ range_marks size p n → ns ≡ range_marks size q m → p + n ≤ size → q + m ≤ size → Disjoint ms ns → Apart s t
pieces_apart s t ms ns size p n q m at long at' long' here there inside inside' d =
    let both : (k : ℕ) → p ≤ k → k < p + n → q ≤ k → k < q + m → ⊥ = λ k a b x y.
    clash ms ns k d (ap (λ zs. get_or zs k false) here ∙ marked size p n k a b (omega arith)) (ap (λ zs. get_or zs k false) there ∙ marked size q m k x y (omega arith)) in
    either (cases_lt 0 n) (λ some. either (cases_lt 0 m) (λ more. either (cases_lt q (p + n)) (λ one. either (cases_lt p (q + m))
    (λ two. either (cases_lt p q) (λ before. absurd (both q (omega arith) one (omega arith) (omega arith))) (λ behind. absurd (both p (omega arith) (omega arith) behind two)))
    (λ far. inr (inr (inr (omega arith))))) (λ far. inr (inr (inl (omega arith))))) (λ empty. inr (inl (omega arith)))) (λ empty. inl (omega arith))

-- what is in a range is not there
pub held_apart : (cs : Slots) (p n : ℕ) → p + n ≤ length cs → Disjoint (held cs) (range_marks (length cs) p n) → IsAway cs p n
held_apart [] (suc p) n le d = let l : suc p + n ≤ 0 = le in absurd (omega arith)
held_apart [] zero (suc n) le d = let l : zero + suc n ≤ 0 = le in absurd (omega arith)
held_apart [] zero zero le d = refl
held_apart (Some x ∷ cs) (suc p) n le d = let l : suc p + n ≤ suc (length cs) = le in held_apart cs p n (omega arith) d
held_apart (None ∷ cs) (suc p) n le d = let l : suc p + n ≤ suc (length cs) = le in held_apart cs p n (omega arith) d
held_apart (c ∷ cs) zero zero le d = refl
held_apart (Some x ∷ cs) zero (suc n) le d = absurd d
held_apart (None ∷ cs) zero (suc n) le d = let l : zero + suc n ≤ suc (length cs) = le in ap (λ (xs : Slots). None ∷ xs) (held_apart cs zero n (omega arith) d)
