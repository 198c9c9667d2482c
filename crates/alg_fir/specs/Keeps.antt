-- How the words of an instance keep its history.
use Rattle.std.specs.Prelude.{ℕ, suc, ℤ, pos, ◌≡◌, ◌+◌, ◌-◌, ◌*◌, ◌≤◌, ◌<◌, List, length, take, FitsSigned}
use Rattle.std.specs.List.{All}
use Rattle.std.specs.Int.{w16}
use Rattle.ialg.specs.declared.TheConstants.{BLOCK_SAMPLES}
use Rattle.ialg.specs.History.{History, word_at, past, words_in_force, with_samples, IsWordHistory}
use Rattle.fir_kernel.specs.declared.TheConstants.{MOST_COEFFICIENTS}
use Rattle.fir_kernel.specs.Rings.{IsRing}
use Rattle.alg_fir.specs.Equation.{fir_output}
use Rattle.alg_fir.specs.declared.delay.Taken.{Taken}

-- the kind word of a filter's object
abbrev pub fir_kind : ℤ
fir_kind = pos 1

-- the words begin with the coefficients in force
pub record KeepsCoefficients (p : List ℤ) (h : History) (kept : List ℤ) : Type 0 where
  pub some : 1 ≤ length p
  pub few : length p ≤ MOST_COEFFICIENTS
  pub size : length kept ≡ 2 * length p - 1
  pub coefficients : take (length p) kept ≡ words_in_force p h

-- from word `from` on the words have the past samples of a filter of `taps` coefficients, the newest last
abbrev pub KeepsPast : ℕ → ℕ → History → List ℤ → Type 0
KeepsPast taps from h kept = (j k : ℕ) → j + k + 2 ≡ taps → word_at kept (from + j) ≡ past h k

-- all words but the last are a ring of the past samples of a filter of `taps` coefficients, and the last word is the place of
-- the next sample
pub record KeepsRing (taps : ℕ) (h : History) (words : List ℤ) : Type 0 where
  pub size : length words ≡ taps - 1 + BLOCK_SAMPLES
  pub place : ℕ
  pub last : word_at words (length words - 1) ≡ pos place
  pub ring : IsRing (taps - 1) (length words - 1) words place h

-- a ring of the right length keeps these past samples afterwards, whatever it was
abbrev pub RefillsRing : (past old new : List ℤ) → Type 0
RefillsRing past old new = (taps : ℕ) (h : History) → length past + 1 ≡ taps → taps ≤ MOST_COEFFICIENTS
    → length old ≡ taps - 1 + BLOCK_SAMPLES → KeepsPast taps 0 h past → KeepsRing taps h new

-- all samples taken are among so many
abbrev pub AreWithin : Taken → ℕ → Type 0
AreWithin taken samples = (i : ℕ) → i < taken.count → taken.first + taken.step * i < samples

-- a block of 16-bit samples was run: the ring keeps the longer history, and the same coefficients are in force
pub record Ran (p : List ℤ) (h : History) (block new : List ℤ) : Type 0 where
  pub ring : KeepsRing (length p) (with_samples h block) new
  pub samples : All (FitsSigned w16) block
  pub coefficients : words_in_force p (with_samples h block) ≡ words_in_force p h

-- the values are the outputs at sample `first` of a block, and at each `step`-th sample after it
abbrev pub AreOutputs : List ℤ → History → List ℤ → ℕ → ℕ → List ℤ → Type 0
AreOutputs p h block first step ys = (i : ℕ) → i < length ys
    → word_at ys i ≡ fir_output p (with_samples h (take (suc (first + step * i)) block))

-- a block was run with these coefficients in force: whatever history the ring kept, `next` being the place of its next sample, it keeps
-- the longer one, and the values are the outputs at the samples taken
abbrev pub Filters : List ℤ → ℕ → Taken → List ℤ → List ℤ → List ℤ → List ℤ → Type 0
Filters cs next taken block old new ys = (p : List ℤ) (h : History) → cs ≡ words_in_force p h
    → length cs ≡ length p → length old ≡ length p - 1 + BLOCK_SAMPLES
    → IsRing (length p - 1) (length old - 1) old next h
    → Ran p h block new × AreOutputs p h block taken.first taken.step ys

-- while an instance is idle
pub record Rests (p : List ℤ) (h : History) (kept : List ℤ) : Type 0 where
  pub history : IsWordHistory h
  pub coefficients : KeepsCoefficients p h kept
  pub past : KeepsPast (length p) (length p) h kept

-- while it is active
pub record Runs (p : List ℤ) (h : History) (kept running : List ℤ) : Type 0 where
  pub history : IsWordHistory h
  pub coefficients : KeepsCoefficients p h kept
  pub ring : KeepsRing (length p) h running
