-- Worked rows: what generators give over a line of sevens.
use Rattle.std.specs.Prelude.{◌≡◌, ℕ, ℤ, pos, neg_ℤ, List, [], ◌∷◌, Some, None, replicate}
use Rattle.ialg.specs.History.{with_samples, outputs_by}
use Rattle.kind_steps.specs.Recursions.{gives_of, tuning_by}
use Rattle.alg_signal.specs.Tones.{cadence_named, initial_tones, taken}

-- so many samples of 7 through a generator of these parameters
abbrev pub over_sevens : List ℤ → ℕ → List ℤ
over_sevens p n = outputs_by (gives_of initial_tones taken (tuning_by cadence_named p)) (with_samples [] (replicate n (pos 7)))

pub record SignalRows : Type 0 where
  -- a quarter of a turn in each sample: twice its cosine is 0. One cycle of four samples, and then the line itself
  pub once : over_sevens (pos 0 ∷ pos 1000 ∷ pos 0 ∷ pos 0 ∷ pos 4 ∷ pos 2 ∷ pos 1 ∷ []) 8
      ≡ pos 0 ∷ pos 1000 ∷ pos 0 ∷ neg_ℤ (pos 1000) ∷ pos 7 ∷ pos 7 ∷ pos 7 ∷ pos 7 ∷ []
  -- two tones, three samples on and one off, without an end: each cycle begins anew
  pub cycles : over_sevens (pos 0 ∷ pos 1000 ∷ pos 0 ∷ pos 500 ∷ pos 3 ∷ pos 1 ∷ pos 0 ∷ []) 9
      ≡ pos 0 ∷ pos 1500 ∷ pos 0 ∷ pos 7 ∷ pos 0 ∷ pos 1500 ∷ pos 0 ∷ pos 7 ∷ pos 0 ∷ []
  -- six words are no generator's, and eight neither
  pub six : cadence_named (pos 0 ∷ pos 1 ∷ pos 0 ∷ pos 1 ∷ pos 4 ∷ pos 2 ∷ []) ≡ None
  pub eight : cadence_named (pos 0 ∷ pos 1 ∷ pos 0 ∷ pos 1 ∷ pos 4 ∷ pos 2 ∷ pos 1 ∷ pos 1 ∷ []) ≡ None
