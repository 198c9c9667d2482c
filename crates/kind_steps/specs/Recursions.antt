-- Kinds that give one word for each sample, by a recursion over a state.
use Rattle.std.specs.Prelude.{ℕ, ℤ, false, ◌≡◌, ◌+◌, nat_le, List, [], ◌∷◌, ◌++◌, length, take, drop, FitsSigned, Option, Some, None, if◌then◌else◌}
use Rattle.std.specs.List.{All}
use Rattle.std.specs.Int.{w16}
use Rattle.mem_rec.specs.declared.TheConstants.{LEAST_ALIGNMENT}
use Rattle.ialg.specs.declared.TheConstants.{PARAMETER_WORDS}
use Rattle.ialg.specs.declared.filter.FilterMemory.{FilterMemory}
use Rattle.ialg.specs.History.{History, Sample, Control, Reset, with_samples, outputs_by, IsWordHistory}
use Rattle.ialg.specs.Meaning.{accepts_set}
use Rattle.ialg.specs.Filters.{FilterMeaning}

-- what parameters name, which are no more words than parameters may have
abbrev pub tuning_by : {T : Type 0} → (List ℤ → Option T) → List ℤ → Option T
tuning_by tuned p = if nat_le (length p) PARAMETER_WORDS then tuned p else None

-- kept are the parameters and the state's n words, and the state runs
abbrev pub recursion_memory : {T : Type 0} → (n : ℕ) → List ℤ → Option T → Option FilterMemory
recursion_memory n p (Some t) = Some (record { kept = length p + n; running = n; align = LEAST_ALIGNMENT })
recursion_memory n p None = None

-- the words begin with the parameters, which name this tuning
pub record KeepsTuning {T : Type 0} (n : ℕ) (tuned : List ℤ → Option T) (p : List ℤ) (t : T) (kept : List ℤ) : Type 0 where
  pub named : tuning_by tuned p ≡ Some t
  pub size : length kept ≡ length p + n
  pub parameters : take (length p) kept ≡ p

-- by the first state, and by what a sample makes of a state and gives
module _ {T S : Type 0} (first : S) (taken : T → ℤ → S → S × ℤ) where
  -- the state behind all that was given
  abbrev pub state_after : T → History → S
  state_after t [] = first
  state_after t (Sample x ∷ h) = (taken t x (state_after t h)).0
  state_after t (Control Reset ∷ h) = first
  state_after t (Control c ∷ h) = state_after t h

  -- what the newest sample gives
  abbrev pub gives_by_recursion : T → History → List ℤ
  gives_by_recursion t (Sample x ∷ h) = (taken t x (state_after t h)).1 ∷ []
  gives_by_recursion t _ = []

  abbrev pub gives_of : Option T → History → List ℤ
  gives_of (Some t) h = gives_by_recursion t h
  gives_of None h = []

  -- nothing can be set, and `get` gives the parameters
  abbrev pub recursion_filter : (n : ℕ) → (List ℤ → Option T) → FilterMeaning
  recursion_filter n tuned = record {
    memory = λ p. recursion_memory n p (tuning_by tuned p);
    gives = λ p. gives_of (tuning_by tuned p);
    accepts = λ p. accepts_set (λ words. false);
    got = λ p h. p;
  }

  -- and by the words of a state
  module _ (n : ℕ) (tuned : List ℤ → Option T) (words_of : S → List ℤ) where
    -- while an instance is idle
    pub record RestsByRecursion (p : List ℤ) (h : History) (kept : List ℤ) : Type 0 where
      pub history : IsWordHistory h
      pub tuning : T
      pub keeps : KeepsTuning n tuned p tuning kept
      pub state : drop (length p) kept ≡ words_of (state_after tuning h)

    -- while it is active
    pub record RunsByRecursion (p : List ℤ) (h : History) (kept running : List ℤ) : Type 0 where
      pub history : IsWordHistory h
      pub tuning : T
      pub keeps : KeepsTuning n tuned p tuning kept
      pub size : length running ≡ n
      pub state : running ≡ words_of (state_after tuning h)

  -- a block of 16-bit samples was run: `new` is the state after it, and the outputs are those of the longer history less those before
  pub record RanByRecursion (words_of : S → List ℤ) (t : T) (h : History) (block new ys : List ℤ) : Type 0 where
    pub state : new ≡ words_of (state_after t (with_samples h block))
    pub samples : All (FitsSigned w16) block
    pub outputs : outputs_by (gives_by_recursion t) (with_samples h block) ≡ outputs_by (gives_by_recursion t) h ++ ys
