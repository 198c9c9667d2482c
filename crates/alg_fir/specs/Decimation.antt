-- The equation of a decimator, over the whole history of an instance. Its parameters are its factor M and the coefficients of
-- a filter.
use Rattle.std.specs.Prelude.{ℕ, ℤ, ◌+◌, ◌==◌, List, [], ◌∷◌, drop, unsigned_abs, if◌then◌else◌}
use Rattle.ialg.specs.History.{History, Sample, samples_in_frame, word_at}
use Rattle.alg_fir.specs.Equation.{fir_output}

-- M
abbrev pub factor : List ℤ → ℕ
factor p = unsigned_abs (word_at p 0)

-- what the newest sample gives: the filter's output, where it is the last of a frame of M samples
abbrev pub decim_gives : List ℤ → History → List ℤ
decim_gives p (Sample x ∷ h) = if samples_in_frame (factor p) h + 1 == factor p then fir_output (drop 1 p) (Sample x ∷ h) ∷ [] else []
decim_gives p _ = []
