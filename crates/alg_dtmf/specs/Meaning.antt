-- What a detector of digits means.
use Rattle.std.specs.Prelude.{ℕ, ℤ, pos, false, ◌+◌, ◌==◌, ◌&&◌, List, [], ◌∷◌, length, Option, Some, None, bytes_eq, codes, if◌then◌else◌}
use Rattle.mem_rec.specs.declared.TheConstants.{LEAST_ALIGNMENT}
use Rattle.ialg.specs.declared.filter.FilterMemory.{FilterMemory}
use Rattle.ialg.specs.History.{samples_in_frame, word_at}
use Rattle.ialg.specs.Meaning.{is_between, accepts_set}
use Rattle.ialg.specs.Filters.{FilterMeaning}
use Rattle.alg_dtmf.specs.declared.TheConstants.{PARAMETERS, STATE_WORDS, FRAME_SAMPLES, MOST_SHIFT}
use Rattle.alg_dtmf.specs.declared.detector.Dtmf.{Dtmf}
use Rattle.alg_dtmf.specs.Equation.{frame_length, dtmf_gives}

-- the parameters are N s threshold down up dominance share: kept are these and the state, and the state runs
abbrev pub dtmf_memory : List ℤ → Option FilterMemory
dtmf_memory p =
    if length p == PARAMETERS && is_between (pos 1) FRAME_SAMPLES (word_at p 0) && is_between (pos 0) MOST_SHIFT (word_at p 1)
    then Some (record { kept = PARAMETERS + STATE_WORDS; running = STATE_WORDS; align = LEAST_ALIGNMENT })
    else None

-- nothing can be set, and `get` gives how many samples the frame has so far
abbrev pub dtmf_filter : FilterMeaning
dtmf_filter = record {
  memory = dtmf_memory;
  gives = dtmf_gives;
  accepts = λ p. accepts_set (λ words. false);
  got = λ p h. pos (samples_in_frame (frame_length p) h) ∷ [];
}

-- its name in scripts
abbrev pub dtmf_named : List ℕ → Option Dtmf
dtmf_named name = if bytes_eq name (codes "dtmf") then Some (record {}) else None
