-- What private clauses alone speak of: a frame and a tuning, by name, and what comes of samples.
use Rattle.std.specs.Prelude.{ℤ, pos, ◌≡◌, ◌≤◌, List, ◌++◌, unsigned_abs}
use Rattle.ialg.specs.History.{History, samples_in_frame, with_samples, word_at}
use Rattle.alg_tone.specs.declared.TheConstants.{FRAME_SAMPLES}
use Rattle.alg_tone.specs.declared.kernel.Frame.{Frame}
use Rattle.alg_tone.specs.declared.kernel.Tuning.{Tuning}
use Rattle.alg_tone.specs.Equation.{frame_length, factor_in_force, values_since_reset, tone_outputs}
use Rattle.alg_tone.specs.Keeps.{value_in_frame}

-- the frame after a history
pub record IsFrame (p : List ℤ) (h : History) (s : Frame) : Type 0 where
  pub samples : s.samples ≡ pos (samples_in_frame (frame_length p) h)
  pub v1 : s.v1 ≡ value_in_frame (samples_in_frame (frame_length p) h) (values_since_reset p h) 0
  pub v2 : s.v2 ≡ value_in_frame (samples_in_frame (frame_length p) h) (values_since_reset p h) 1

-- a block was run, with the outputs ys
pub record Gives (p : List ℤ) (h : History) (block : List ℤ) (s : Frame) (ys : List ℤ) : Type 0 where
  pub frame : IsFrame p (with_samples h block) s
  pub outputs : tone_outputs p (with_samples h block) ≡ tone_outputs p h ++ ys

-- the words say what the detector is made for
pub record IsTuned (p : List ℤ) (h : History) (t : Tuning) : Type 0 where
  pub some : 1 ≤ frame_length p
  pub few : frame_length p ≤ unsigned_abs FRAME_SAMPLES
  pub factor : t.factor ≡ factor_in_force p h
  pub samples : t.samples ≡ pos (frame_length p)
  pub shift : t.shift ≡ word_at p 2
