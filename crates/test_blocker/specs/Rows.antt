-- Worked rows: a step of 100, through a blocker of one half.
use Rattle.std.specs.Prelude.{◌≡◌, ℤ, pos, neg_ℤ, List, [], ◌∷◌, None}
use Rattle.ialg.specs.History.{with_samples, outputs_by}
use Rattle.kind_steps.specs.Recursions.{gives_of, tuning_by}
use Rattle.test_blocker.specs.Equation.{nothing, ratio_named, taken}

abbrev pub given_for : List ℤ → List ℤ → List ℤ
given_for p xs = outputs_by (gives_of nothing taken (tuning_by ratio_named p)) (with_samples [] xs)

pub record BlockerRows : Type 0 where
  pub step : given_for (pos 16384 ∷ []) (pos 100 ∷ pos 100 ∷ pos 100 ∷ pos 0 ∷ []) ≡ pos 100 ∷ pos 50 ∷ pos 25 ∷ neg_ℤ (pos 87) ∷ []
  -- one word, and no more
  pub none : ratio_named [] ≡ None
  pub two : ratio_named (pos 1 ∷ pos 1 ∷ []) ≡ None
