-- The pieces of a creation by their entries.
use Rattle.std.proofs.Common.{◌≡◌, ◌≢◌, ℕ, zero, suc, ◌<◌, List, [], ◌∷◌, get_or, set, Option, None, refl, sym, ap, ◌∙◌, arith}
use Rattle.std.proofs.lemmas.List.{get_or-set_other}
use Rattle.space_raw.specs.Span.{Span}
use Rattle.host_spaces.specs.declared.granted.Granted.{Granted}
use Rattle.host_spaces.specs.Wants.{slot_at, with_slot}

pub slot_same : (made : Granted) (k : ℕ) (p : Option Span) → k < 7 → slot_at (with_slot made k p) k ≡ p
slot_same made zero p lt = refl
slot_same made (suc zero) p lt = refl
slot_same made (suc (suc zero)) p lt = refl
slot_same made (suc (suc (suc zero))) p lt = refl
slot_same made (suc (suc (suc (suc zero)))) p lt = refl
slot_same made (suc (suc (suc (suc (suc zero))))) p lt = refl
slot_same made (suc (suc (suc (suc (suc (suc zero)))))) p lt = refl
slot_same made (suc (suc (suc (suc (suc (suc (suc k))))))) p lt = absurd (omega arith)

abbrev all : Granted → List (Option Span)
all made = made.p0 ∷ made.p1 ∷ made.p2 ∷ made.p3 ∷ made.p4 ∷ made.p5 ∷ made.p6 ∷ []

slot_all : (made : Granted) (j : ℕ) → slot_at made j ≡ get_or (all made) j None
slot_all made zero = refl
slot_all made (suc zero) = refl
slot_all made (suc (suc zero)) = refl
slot_all made (suc (suc (suc zero))) = refl
slot_all made (suc (suc (suc (suc zero)))) = refl
slot_all made (suc (suc (suc (suc (suc zero))))) = refl
slot_all made (suc (suc (suc (suc (suc (suc zero)))))) = refl
slot_all made (suc (suc (suc (suc (suc (suc (suc j))))))) = refl

all_with : (made : Granted) (k : ℕ) (p : Option Span) → all (with_slot made k p) ≡ set (all made) k p
all_with made zero p = refl
all_with made (suc zero) p = refl
all_with made (suc (suc zero)) p = refl
all_with made (suc (suc (suc zero))) p = refl
all_with made (suc (suc (suc (suc zero)))) p = refl
all_with made (suc (suc (suc (suc (suc zero))))) p = refl
all_with made (suc (suc (suc (suc (suc (suc zero)))))) p = refl
all_with made (suc (suc (suc (suc (suc (suc (suc k))))))) p = refl

pub slot_other : (made : Granted) (k j : ℕ) (p : Option Span) → j ≢ k → slot_at (with_slot made k p) j ≡ slot_at made j
slot_other made k j p apart =
    slot_all (with_slot made k p) j ∙ ap (λ xs. get_or xs j None) (all_with made k p) ∙ get_or-set_other (all made) k j p None apart ∙ sym (slot_all made j)
