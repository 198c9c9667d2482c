-- What a granted call tells of the state before it.
use Rattle.std.proofs.Common.{◌≡◌, Bool, true, false, [], ◌∷◌, Option, Some, None, Result, Ok, Err, refl, ap}
use Rattle.std.specs.Prelude.{is_some, is_none}
use Rattle.ialg.specs.declared.refusal.Refusal.{Refusal}
use Rattle.ialg.specs.declared.refusal.Refusal.TheVariants.{Range, Taken, Missing, Command}
use Rattle.ialg.specs.Refusals.{first_refusal}
use Rattle.host_spec.specs.State.{State}
use Rattle.host_spec.specs.Steps.{Outcome, unless}

pub unlike : {M A : Type 0} (before after : State M) (a : A) (r : Refusal) → ◌≡◌ {A = Outcome (State M) A} (Ok a, after) (Err r, before) → ⊥
unlike {A = A} before after a r e = let f : ◌≡◌ {A = Result A Refusal} (Ok a) (Err r) = ap (λ o. o.0) e in cc

pub free : {M A : Type 0} (range taken : Bool) (before after : State M) (outcome : Outcome (State M) A) (a : A)
    → (Ok a, after) ≡ unless (first_refusal ((range, Range) ∷ (taken, Taken) ∷ [])) before outcome → taken ≡ false
free true taken before after outcome a e = absurd (unlike before after a Range e)
free false true before after outcome a e = absurd (unlike before after a Taken e)
free false false before after outcome a e = refl

pub there_is : {M A : Type 0} (range none untaken : Bool) (before after : State M) (outcome : Outcome (State M) A) (a : A)
    → (Ok a, after) ≡ unless (first_refusal ((range, Range) ∷ (none, Missing) ∷ (untaken, Command) ∷ [])) before outcome → none ≡ false
there_is true none untaken before after outcome a e = absurd (unlike before after a Range e)
there_is false true untaken before after outcome a e = absurd (unlike before after a Missing e)
there_is false false untaken before after outcome a e = refl

pub some_there : {A : Type 0} (o : Option A) → is_none o ≡ false → (a : A) × (o ≡ Some a)
some_there None e = cc
some_there (Some a) e = (a, refl)
