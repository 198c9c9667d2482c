-- Which parameters name a coder.
use Rattle.std.proofs.Common.{◌≡◌, zero, suc, ℤ, pos, List, [], ◌∷◌, Option, Some, sym, ◌∙◌}
use Rattle.alg_g711.specs.declared.companding.Law.{Law}
use Rattle.alg_g711.specs.declared.companding.Law.TheVariants.{A, Mu}
use Rattle.alg_g711.specs.declared.coder.Direction.{Direction}
use Rattle.alg_g711.specs.declared.coder.Direction.TheVariants.{Encode, Decode}
use Rattle.alg_g711.specs.declared.coder.Coder.{Coder}
use Rattle.alg_g711.specs.Meaning.{coder_named}

abbrev law_word : Law → ℤ
law_word A = pos 0
law_word Mu = pos 1

abbrev direction_word : Direction → ℤ
direction_word Encode = pos 0
direction_word Decode = pos 1

-- of a coder that was named
named : (law : Law) (direction : Direction) (coder : Coder) → Some (record { law = law; direction = direction }) ≡ Some coder
    → law_word law ∷ direction_word direction ∷ [] ≡ law_word coder.law ∷ direction_word coder.direction ∷ []
named law direction coder e = cc

parameters_are : (p : List ℤ) (coder : Coder) → coder_named p ≡ Some coder → p ≡ law_word coder.law ∷ direction_word coder.direction ∷ []
parameters_are (pos zero ∷ pos zero ∷ []) coder e = named A Encode coder e
parameters_are (pos zero ∷ pos (suc zero) ∷ []) coder e = named A Decode coder e
parameters_are (pos (suc zero) ∷ pos zero ∷ []) coder e = named Mu Encode coder e
parameters_are (pos (suc zero) ∷ pos (suc zero) ∷ []) coder e = named Mu Decode coder e
parameters_are _ coder e = cc

-- a coder has one pair of parameters
pub same_parameters : (p q : List ℤ) (coder : Coder) → coder_named p ≡ Some coder → coder_named q ≡ Some coder → q ≡ p
same_parameters p q coder e f = parameters_are q coder f ∙ sym (parameters_are p coder e)

-- what was found is the coder
pub same_coder : (found : Option Coder) (a b : Coder) → found ≡ Some a → found ≡ Some b → a ≡ b
same_coder found a b e f = cc
