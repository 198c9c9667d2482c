-- What is there.
use Rattle.std.proofs.Common.{◌≡◌, refl, ap, ◌∙◌, sym}
use Rattle.core.specs.Int.{from_bool}
use Rattle.dsp_library.specs.Codes.{flag_code}
use Rattle.std.specs.Prelude.{Bool, true, false, Option, Some, None, is_some, unwrap_or}
use Rattle.std.proofs.lemmas.Bool.{false≢true}

pub some_there : {A : Type 0} → (x : Option A) → is_some x ≡ true → (a : A) × (x ≡ Some a)
some_there (Some a) there = (a, refl)
some_there None there = absurd (false≢true there)

-- two values of one option are one
pub same_there : {A : Type 0} {x : Option A} {a b : A} → x ≡ Some a → x ≡ Some b → a ≡ b
same_there {a = a} e f = ap (λ y. unwrap_or y a) (sym e ∙ f)

-- what the library says of a flag is the number of a bool
pub flag_is : (b : Bool) → from_bool b ≡ flag_code b
flag_is true = refl
flag_is false = refl
