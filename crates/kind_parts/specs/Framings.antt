-- Kinds that tell one word of each frame of samples. The first parameter is the length of a frame.
use Rattle.std.specs.Prelude.{ℕ, ℤ, pos, Bool, false, ◌≡◌, ◌+◌, ◌&&◌, nat_le, List, [], ◌∷◌, ◌++◌, length, take, drop, unsigned_abs, FitsSigned, Option, Some, None, IsTrue, bytes_eq, if◌then◌else◌}
use Rattle.std.specs.List.{All}
use Rattle.std.specs.Int.{w16}
use Rattle.mem_rec.specs.declared.TheConstants.{LEAST_ALIGNMENT}
use Rattle.ialg.specs.declared.TheConstants.{PARAMETER_WORDS}
use Rattle.ialg.specs.declared.filter.FilterMemory.{FilterMemory}
use Rattle.ialg.specs.History.{History, samples_in_frame, word_at, with_samples, outputs_by, IsWordHistory}
use Rattle.ialg.specs.Meaning.{is_between, accepts_set}
use Rattle.ialg.specs.Filters.{FilterMeaning}
use Rattle.kind_parts.specs.declared.framing.TheConstants.{MOST_FRAME, COUNT}
use Rattle.kind_parts.specs.Frames.{frame_so_far, gives_by_frame}

-- the samples of a frame
abbrev pub frame_length : List ℤ → ℕ
frame_length p = unsigned_abs (word_at p 0)

-- what the newest sample gives: what is told of its frame, where it is the last of it
abbrev pub gives_in_frames : (List ℤ → List ℤ → ℤ) → List ℤ → History → List ℤ
gives_in_frames told p h = gives_by_frame (frame_length p) (told p) h

-- which parameters are taken, beside what the kind says
abbrev pub are_parameters : (List ℤ → Bool) → List ℤ → Bool
are_parameters taken p = nat_le 1 (length p) && nat_le (length p) PARAMETER_WORDS && is_between (pos 1) MOST_FRAME (word_at p 0) && taken p

-- kept are the parameters, the count of samples and the state, and the latter two run
abbrev pub framing_memory : ℕ → (List ℤ → Bool) → List ℤ → Option FilterMemory
framing_memory words taken p =
    if are_parameters taken p
    then Some (record { kept = length p + (COUNT + words); running = COUNT + words; align = LEAST_ALIGNMENT })
    else None

-- nothing can be set, and `get` gives how many samples the frame has so far
abbrev pub framing_filter : ℕ → (List ℤ → Bool) → (List ℤ → List ℤ → ℤ) → FilterMeaning
framing_filter words taken told = record {
  memory = framing_memory words taken;
  gives = gives_in_frames told;
  accepts = λ p. accepts_set (λ words. false);
  got = λ p h. pos (samples_in_frame (frame_length p) h) ∷ [];
}

-- the one kind of this name
abbrev pub framing_named : {K : Type 0} → List ℕ → K → List ℕ → Option K
framing_named own kind name = if bytes_eq name own then Some kind else None

-- the count and the state of a frame of k samples so far
abbrev pub counted : (List ℤ → List ℤ → List ℤ) → List ℤ → ℕ → List ℤ → List ℤ
counted state_of p k xs = pos k ∷ state_of p xs

-- those behind a history
abbrev pub state_after : (List ℤ → List ℤ → List ℤ) → List ℤ → History → List ℤ
state_after state_of p h = counted state_of p (samples_in_frame (frame_length p) h) (frame_so_far (frame_length p) h)

-- the words begin with the parameters, which are taken
pub record KeepsParameters (words : ℕ) (taken : List ℤ → Bool) (p kept : List ℤ) : Type 0 where
  pub takes : IsTrue (are_parameters taken p)
  pub size : length kept ≡ length p + (COUNT + words)
  pub same : take (length p) kept ≡ p

-- while an instance is idle
pub record RestsInFrame (words : ℕ) (taken : List ℤ → Bool) (state_of : List ℤ → List ℤ → List ℤ) (p : List ℤ) (h : History) (kept : List ℤ) : Type 0 where
  pub history : IsWordHistory h
  pub parameters : KeepsParameters words taken p kept
  pub state : drop (length p) kept ≡ state_after state_of p h

-- while it is active
pub record RunsInFrame (words : ℕ) (taken : List ℤ → Bool) (state_of : List ℤ → List ℤ → List ℤ) (p : List ℤ) (h : History) (kept running : List ℤ) : Type 0 where
  pub history : IsWordHistory h
  pub parameters : KeepsParameters words taken p kept
  pub size : length running ≡ COUNT + words
  pub state : running ≡ state_after state_of p h

-- a block of 16-bit samples was run: where the words were the state of a history, they are that of the longer one, and the outputs are
-- those of the longer history less those before
pub record FramesOn (state_of : List ℤ → List ℤ → List ℤ) (told : List ℤ → List ℤ → ℤ) (p : List ℤ) (h : History) (old block new ys : List ℤ) : Type 0 where
  pub samples : All (FitsSigned w16) block
  pub state : old ≡ state_after state_of p h → new ≡ state_after state_of p (with_samples h block)
  pub outputs : old ≡ state_after state_of p h
      → outputs_by (gives_in_frames told p) (with_samples h block) ≡ outputs_by (gives_in_frames told p) h ++ ys
