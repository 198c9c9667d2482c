-- Tests of numbers, and of ranges.
use Rattle.std.proofs.Common.{◌≡◌, ℕ, ◌<◌, ◌≤◌, ◌⊎◌, Bool, true, false, ◌&&◌, ◌||◌, not, List, [], ◌∷◌, ◌++◌, inl, inr, refl, sym, ◌∙◌}
use Rattle.std.proofs.lemmas.Bool.{ltb-true, leb-true, lt-ltb, le-leb}
use Rattle.relocate.specs.Places.{Range, covers, end_of, is_covered, meets}

pub either : {A B X : Type 0} → A ⊎ B → (A → X) → (B → X) → X
either (inl a) f g = f a
either (inr b) f g = g b

pub true_or_false : (b : Bool) → (b ≡ true) ⊎ (b ≡ false)
true_or_false true = inl refl
true_or_false false = inr refl

pub clash : {X : Type 0} (b : Bool) → b ≡ true → b ≡ false → X
clash b is isnt = let bad : true ≡ false = sym is ∙ isnt in cc

pub when_not : (b : Bool) → (b ≡ true → ⊥) → b ≡ false
when_not true never = absurd (never refl)
when_not false never = refl

pub both_true : (a b : Bool) → a && b ≡ true → (a ≡ true) × (b ≡ true)
both_true true true e = (refl, refl)
both_true true false e = cc
both_true false b e = cc

pub and_true : (a b : Bool) → a ≡ true → b ≡ true → a && b ≡ true
and_true true true e f = refl
and_true true false e f = f
and_true false b e f = e

pub one_true : (a b : Bool) → a || b ≡ true → (a ≡ true) ⊎ (b ≡ true)
one_true true b e = inl refl
one_true false b e = inr e

pub right_true : (a b : Bool) → b ≡ true → (a || b) ≡ true
right_true true b e = refl
right_true false b e = e

pub left_true : (a b : Bool) → a ≡ true → (a || b) ≡ true
left_true true b e = refl
left_true false b e = cc

pub both_false : (a b : Bool) → a || b ≡ false → (a ≡ false) × (b ≡ false)
both_false true b e = cc
both_false false b e = (refl, e)

pub or_false : (a b : Bool) → a ≡ false → b ≡ false → a || b ≡ false
or_false true b e f = e
or_false false b e f = f

pub false_left : (a b : Bool) → a ≡ false → (a || b) ≡ b
false_left true b e = cc
false_left false b e = refl

pub not_false : (b : Bool) → not b ≡ true → b ≡ false
not_false true e = sym e
not_false false e = refl

pub not_true : (b : Bool) → not b ≡ false → b ≡ true
not_true true e = refl
not_true false e = sym e

pub same_test : (a b : Bool) → (a ≡ true → b ≡ true) → (b ≡ true → a ≡ true) → a ≡ b
same_test true b f g = sym (f refl)
same_test false true f g = g refl
same_test false false f g = refl

pub is_in : (r : Range) (k : ℕ) → covers r k ≡ true → (r.place ≤ k) × (k < end_of r)
is_in r k e = let both = both_true _ _ e in (leb-true r.place k both.0, ltb-true k (end_of r) both.1)

pub in_range : (r : Range) (k : ℕ) → r.place ≤ k → k < end_of r → covers r k ≡ true
in_range r k low high = and_true _ _ (le-leb r.place k low) (lt-ltb k (end_of r) high)

pub meet_if : (r s : Range) → r.place < end_of s → s.place < end_of r → meets r s ≡ true
meet_if r s a b = and_true _ _ (lt-ltb r.place (end_of s) a) (lt-ltb s.place (end_of r) b)

pub if_meet : (r s : Range) → meets r s ≡ true → (r.place < end_of s) × (s.place < end_of r)
if_meet r s e = let both = both_true _ _ e in (ltb-true r.place (end_of s) both.0, ltb-true s.place (end_of r) both.1)

pub meet_sym : (r s : Range) → meets r s ≡ false → meets s r ≡ false
meet_sym r s e = when_not (meets s r) (λ met. let both = if_meet s r met in clash (meets r s) (meet_if r s both.1 both.0) e)

pub covered_between : (xs : List Range) (r : Range) (ys : List Range) (k : ℕ) → is_covered (xs ++ r ∷ ys) k ≡ (covers r k || is_covered (xs ++ ys) k)
covered_between [] r ys k = refl
covered_between (x ∷ xs) r ys k = swapped (covers x k) (covers r k) (is_covered (xs ++ ys) k) (is_covered (xs ++ r ∷ ys) k) (covered_between xs r ys k)
  where
    swapped : (a b c d : Bool) → d ≡ (b || c) → (a || d) ≡ (b || (a || c))
    swapped true true c d e = refl
    swapped true false c d e = refl
    swapped false b c d e = e
