-- Worked rows: what a canceller of one coefficient gives where the near end is half of the far end.
use Rattle.std.specs.Prelude.{◌≡◌, ℤ, pos, neg_ℤ, true, false, List, [], ◌∷◌}
use Rattle.ialg.specs.History.{with_samples, outputs_by}
use Rattle.kind_steps.specs.Pairings.{two_samples}
use Rattle.kind_steps.specs.Steppings.{gives_in_steps}
use Rattle.echo_kernel.specs.Equation.{cleared, is_canceller}

-- ten pairs
abbrev pub pairs : List ℤ
pairs =
    pos 8000 ∷ pos 4000 ∷ neg_ℤ (pos 6000) ∷ neg_ℤ (pos 3000) ∷ pos 9000 ∷ pos 4500 ∷ neg_ℤ (pos 8000) ∷ neg_ℤ (pos 4000) ∷ pos 7000 ∷ pos 3500 ∷ neg_ℤ (pos 9000)
    ∷ neg_ℤ (pos 4500) ∷ pos 8000 ∷ pos 4000 ∷ neg_ℤ (pos 7000) ∷ neg_ℤ (pos 3500) ∷ pos 8000 ∷ pos 4000 ∷ neg_ℤ (pos 8000) ∷ neg_ℤ (pos 4000) ∷ []

abbrev pub given_for : List ℤ → List ℤ
given_for p = outputs_by (gives_in_steps two_samples cleared p) (with_samples [] pairs)

pub record EchoRows : Type 0 where
  -- what is learnt is put to use behind nine pairs, and nothing is left of the tenth
  pub learns : given_for (pos 1 ∷ pos 32767 ∷ pos 32767 ∷ pos 0 ∷ [])
      ≡ pos 4000 ∷ neg_ℤ (pos 3000) ∷ pos 4500 ∷ neg_ℤ (pos 4000) ∷ pos 3500 ∷ neg_ℤ (pos 4500) ∷ pos 4000 ∷ neg_ℤ (pos 3500) ∷ pos 4000 ∷ pos 0 ∷ []
  -- while the near end talks, as it does by a share of 0, nothing is learnt
  pub talks : given_for (pos 1 ∷ pos 32767 ∷ pos 0 ∷ pos 3 ∷ [])
      ≡ pos 4000 ∷ neg_ℤ (pos 3000) ∷ pos 4500 ∷ neg_ℤ (pos 4000) ∷ pos 3500 ∷ neg_ℤ (pos 4500) ∷ pos 4000 ∷ neg_ℤ (pos 3500) ∷ pos 4000 ∷ neg_ℤ (pos 4000) ∷ []
  -- 1 to 256 coefficients, and four words
  pub most : is_canceller (pos 256 ∷ pos 0 ∷ pos 0 ∷ pos 0 ∷ []) ≡ true
  pub more : is_canceller (pos 257 ∷ pos 0 ∷ pos 0 ∷ pos 0 ∷ []) ≡ false
  pub none : is_canceller (pos 0 ∷ pos 0 ∷ pos 0 ∷ pos 0 ∷ []) ≡ false
  pub three : is_canceller (pos 1 ∷ pos 0 ∷ pos 0 ∷ []) ≡ false
