-- How the words of an instance keep its history.
use Rattle.std.specs.Prelude.{ℤ, pos, ◌≡◌, ◌≤◌, ◌+◌, List, [], ◌∷◌, ◌++◌, length, take, drop, unsigned_abs, FitsSigned}
use Rattle.std.specs.List.{All}
use Rattle.std.specs.Int.{w16}
use Rattle.basic_op.specs.Operators.{extract_h_of, extract_l_of}
use Rattle.ialg.specs.History.{History, samples_in_frame, word_at, with_samples, IsWordHistory}
use Rattle.kind_parts.specs.Frames.{frame_so_far}
use Rattle.alg_dtmf.specs.declared.TheConstants.{PARAMETERS, STATE_WORDS, FRAME_SAMPLES}
use Rattle.alg_dtmf.specs.declared.kernel.Band.{Band}
use Rattle.alg_dtmf.specs.declared.kernel.Factors.{Factors}
use Rattle.alg_dtmf.specs.declared.kernel.Tuning.{Tuning}
use Rattle.alg_dtmf.specs.Equation.{frame_length, low_factors, high_factors, gain_of, energy_bits, low_values, high_values, energy_of, dtmf_outputs}

-- a frame as words: how many samples there are, the two words of their energy, and the two newest values of each tone
abbrev pub frame_words : ℤ → ℤ → Band → Band → List ℤ
frame_words n e l h =
    (n ∷ extract_h_of e ∷ extract_l_of e ∷ [])
    ++ (l.a.0 ∷ l.a.1 ∷ l.b.0 ∷ l.b.1 ∷ l.c.0 ∷ l.c.1 ∷ l.d.0 ∷ l.d.1 ∷ [])
    ++ (h.a.0 ∷ h.a.1 ∷ h.b.0 ∷ h.b.1 ∷ h.c.0 ∷ h.c.1 ∷ h.d.0 ∷ h.d.1 ∷ [])

-- the frame so far
abbrev pub state_after : List ℤ → History → List ℤ
state_after p h =
    let s = word_at p 1 in
    let xs = frame_so_far (frame_length p) h in
    frame_words (pos (samples_in_frame (frame_length p) h)) (energy_of s xs) (low_values s xs) (high_values s xs)

-- no factor is -32768
pub record AreAboveLeast (k : Factors) : Type 0 where
  pub a : unsigned_abs k.a ≤ 32767
  pub b : unsigned_abs k.b ≤ 32767
  pub c : unsigned_abs k.c ≤ 32767
  pub d : unsigned_abs k.d ≤ 32767

-- what a detector of this shift is made for
abbrev pub tuning_of : ℤ → Tuning
tuning_of s = record { low = low_factors; high = high_factors; scale = record { gain = gain_of s; energy_bits = energy_bits s } }

-- the first parameter is the length of a frame
pub record IsTuned (p : List ℤ) : Type 0 where
  pub some : 1 ≤ frame_length p
  pub few : frame_length p ≤ unsigned_abs FRAME_SAMPLES
  pub frame : word_at p 0 ≡ pos (frame_length p)

-- the words begin with the parameters
pub record KeepsParameters (p : List ℤ) (words : List ℤ) : Type 0 where
  pub tuned : IsTuned p
  pub same : take PARAMETERS words ≡ p

-- a block of 16-bit samples was run: `new` is the state after it, and the outputs are those of the longer history less those before
pub record Ran (p : List ℤ) (h : History) (block new ys : List ℤ) : Type 0 where
  pub state : new ≡ state_after p (with_samples h block)
  pub samples : All (FitsSigned w16) block
  pub outputs : dtmf_outputs p (with_samples h block) ≡ dtmf_outputs p h ++ ys

-- while an instance is idle
pub record Rests (p : List ℤ) (h : History) (kept : List ℤ) : Type 0 where
  pub history : IsWordHistory h
  pub size : length kept ≡ PARAMETERS + STATE_WORDS
  pub parameters : KeepsParameters p kept
  pub state : drop PARAMETERS kept ≡ state_after p h

-- while it is active
pub record Runs (p : List ℤ) (h : History) (kept running : List ℤ) : Type 0 where
  pub history : IsWordHistory h
  pub size : length kept ≡ PARAMETERS + STATE_WORDS
  pub parameters : KeepsParameters p kept
  pub state : running ≡ state_after p h
