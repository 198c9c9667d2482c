-- Worked rows: what detectors tell of frames of two samples.
use Rattle.std.specs.Prelude.{◌≡◌, ℤ, pos, neg_ℤ, true, false, List, [], ◌∷◌}
use Rattle.ialg.specs.History.{with_samples, outputs_by}
use Rattle.kind_steps.specs.Steppings.{gives_in_steps}
use Rattle.alg_activity.specs.Equation.{activity, frame_length, is_detector}

-- five frames: quiet, loud, quiet three times
abbrev pub talk : List ℤ
talk = pos 10 ∷ neg_ℤ (pos 10) ∷ pos 1000 ∷ neg_ℤ (pos 1000) ∷ pos 10 ∷ pos 10 ∷ pos 10 ∷ neg_ℤ (pos 10) ∷ neg_ℤ (pos 10) ∷ pos 10 ∷ []

-- five frames of noise that grows at once, and stays: energies of 40,000 and 90,000
abbrev pub noise : List ℤ
noise = pos 100 ∷ pos 100 ∷ pos 150 ∷ pos 150 ∷ pos 150 ∷ pos 150 ∷ pos 150 ∷ pos 150 ∷ pos 150 ∷ pos 150 ∷ []

abbrev pub told_for : List ℤ → List ℤ → List ℤ
told_for p xs = outputs_by (gives_in_steps frame_length activity p) (with_samples [] xs)

pub record ActivityRows : Type 0 where
  -- the first frame is the floor, 400; the second has 4,000,000; and one more counts by the hangover
  pub hangs : told_for (pos 2 ∷ pos 0 ∷ pos 3 ∷ pos 6 ∷ pos 0 ∷ pos 1 ∷ []) talk ≡ pos 0 ∷ pos 1 ∷ pos 1 ∷ pos 0 ∷ pos 0 ∷ []
  -- without a hangover
  pub alone : told_for (pos 2 ∷ pos 0 ∷ pos 3 ∷ pos 6 ∷ pos 0 ∷ pos 0 ∷ []) talk ≡ pos 0 ∷ pos 1 ∷ pos 0 ∷ pos 0 ∷ pos 0 ∷ []
  -- the loud frame's energy of 4,000,000 isn't 2^15 times the floor, which is 407 by then
  pub wide : told_for (pos 2 ∷ pos 0 ∷ pos 15 ∷ pos 6 ∷ pos 0 ∷ pos 0 ∷ []) talk ≡ pos 0 ∷ pos 0 ∷ pos 0 ∷ pos 0 ∷ pos 0 ∷ []
  -- without a margin louder noise is told until the floor, which rises by a fourth of itself and 1 in a frame, has come to it
  pub grows : told_for (pos 2 ∷ pos 0 ∷ pos 0 ∷ pos 2 ∷ pos 0 ∷ pos 0 ∷ []) noise ≡ pos 0 ∷ pos 1 ∷ pos 1 ∷ pos 1 ∷ pos 0 ∷ []
  -- 1 to 1,024 samples, 0 to 15 bits, and six words
  pub most : is_detector (pos 1024 ∷ pos 15 ∷ pos 15 ∷ pos 15 ∷ pos 32767 ∷ pos 32767 ∷ []) ≡ true
  pub more : is_detector (pos 1025 ∷ pos 0 ∷ pos 0 ∷ pos 0 ∷ pos 0 ∷ pos 0 ∷ []) ≡ false
  pub none : is_detector (pos 0 ∷ pos 0 ∷ pos 0 ∷ pos 0 ∷ pos 0 ∷ pos 0 ∷ []) ≡ false
  pub below : is_detector (pos 1 ∷ pos 0 ∷ pos 0 ∷ pos 0 ∷ pos 0 ∷ neg_ℤ (pos 1) ∷ []) ≡ false
  pub five : is_detector (pos 1 ∷ pos 0 ∷ pos 0 ∷ pos 0 ∷ pos 0 ∷ []) ≡ false
