-- Worked rows: what detectors give and take.
use Rattle.std.specs.Prelude.{◌≡◌, ℤ, pos, negsuc, true, false, List, [], ◌∷◌, replicate, Option, Some, None, option_map}
use Rattle.mem_rec.specs.declared.MemRec.{MemRec}
use Rattle.mem_rec.specs.declared.Space.TheVariants.{Daram, Saram, External}
use Rattle.mem_rec.specs.declared.Attr.TheVariants.{Scratch, Persist}
use Rattle.ialg.specs.History.{History, Control, Set, Reset, Get, with_samples}
use Rattle.ialg.specs.Filters.{filter_records}
use Rattle.alg_tone.specs.Equation.{tone_outputs}
use Rattle.alg_tone.specs.Meaning.{tone_memory, tone_filter}

-- frames of four samples, with the factor 0
abbrev pub fours : List ℤ
fours = pos 0 ∷ pos 4 ∷ pos 0 ∷ []

-- the factor 1
abbrev pub set_to_1 : History → History
set_to_1 h = Control (Set (pos 16384 ∷ [])) ∷ h

pub record OutputRows : Type 0 where
  pub one_frame : tone_outputs fours (with_samples [] (pos 1000 ∷ pos 0 ∷ negsuc 999 ∷ pos 0 ∷ [])) ≡ pos 122 ∷ []
  pub unfinished : tone_outputs fours (with_samples [] (pos 1000 ∷ pos 0 ∷ negsuc 999 ∷ [])) ≡ []
  pub next_frame : tone_outputs fours (with_samples [] (pos 1000 ∷ pos 0 ∷ negsuc 999 ∷ pos 0 ∷ pos 0 ∷ pos 0 ∷ pos 0 ∷ pos 1000 ∷ []))
      ≡ pos 122 ∷ pos 30 ∷ []
  pub without_set : tone_outputs fours (with_samples [] (pos 1000 ∷ pos 0 ∷ pos 0 ∷ pos 1000 ∷ [])) ≡ pos 61 ∷ []
  pub with_set : tone_outputs fours (with_samples (set_to_1 (with_samples [] (pos 1000 ∷ pos 0 ∷ pos 0 ∷ []))) (pos 1000 ∷ [])) ≡ pos 30 ∷ []
  -- the level has the factor of the frame's last sample
  pub level_factor : tone_outputs (pos 0 ∷ pos 2 ∷ pos 0 ∷ []) (with_samples (set_to_1 (with_samples [] (pos 1000 ∷ []))) (pos 1000 ∷ [])) ≡ pos 91 ∷ []
  pub halved : tone_outputs (pos 0 ∷ pos 4 ∷ pos 1 ∷ []) (with_samples [] (pos 2000 ∷ pos 1 ∷ negsuc 1999 ∷ pos 0 ∷ [])) ≡ pos 122 ∷ []
  -- each frame has one sample, shifted by two bits: 256 * 256 * 2 / 65536
  pub one_sample : tone_outputs (pos 32767 ∷ pos 1 ∷ pos 2 ∷ []) (with_samples [] (pos 1024 ∷ pos 1027 ∷ negsuc 0 ∷ [])) ≡ pos 2 ∷ pos 2 ∷ pos 0 ∷ []
  -- the feedback is cut off, not rounded
  pub cut_off : tone_outputs (pos 32767 ∷ pos 2 ∷ pos 0 ∷ []) (with_samples [] (pos 8192 ∷ pos 0 ∷ [])) ≡ pos 2047 ∷ []
  -- the feedback is added, and limited, before the older value is taken off
  pub limited_in_order : tone_outputs (pos 32767 ∷ pos 3 ∷ pos 0 ∷ []) (with_samples [] (negsuc 32767 ∷ pos 0 ∷ pos 0 ∷ [])) ≡ pos 32767 ∷ []
  -- of a level the squares are summed, and limited, first
  pub squares_first : tone_outputs (pos 16384 ∷ pos 2 ∷ pos 0 ∷ []) (with_samples [] (negsuc 32767 ∷ pos 0 ∷ [])) ≡ pos 0 ∷ []
  pub reset_within : tone_outputs fours (with_samples (Control Reset ∷ with_samples [] (pos 1000 ∷ pos 0 ∷ pos 0 ∷ [])) (pos 1000 ∷ pos 0 ∷ negsuc 999 ∷ pos 0 ∷ []))
      ≡ pos 122 ∷ []

-- the table of a detector with this factor, frames of so many samples and this shift
abbrev pub table_for : ℤ → ℤ → ℤ → Option (List MemRec)
table_for factor samples shift = option_map filter_records (tone_memory (factor ∷ samples ∷ shift ∷ []))

abbrev pub granted : Option (List MemRec)
granted = Some (
    record { size = 4; align = 4; space = External; attr = Persist; base = 0 }
    ∷ record { size = 6; align = 4; space = Saram; attr = Persist; base = 0 }
    ∷ record { size = 3; align = 4; space = Daram; attr = Scratch; base = 0 }
    ∷ [])

pub record ParameterRows : Type 0 where
  pub samples_0 : table_for (pos 0) (pos 0) (pos 0) ≡ None
  pub samples_1 : table_for (pos 32767) (pos 1) (pos 0) ≡ granted
  pub samples_1024 : table_for (negsuc 32767) (pos 1024) (pos 0) ≡ granted
  pub samples_1025 : table_for (pos 0) (pos 1025) (pos 0) ≡ None
  pub samples_below_0 : table_for (pos 0) (negsuc 0) (pos 0) ≡ None
  pub shift_below_0 : table_for (pos 0) (pos 4) (negsuc 0) ≡ None
  pub shift_15 : table_for (pos 0) (pos 4) (pos 15) ≡ granted
  pub shift_16 : table_for (pos 0) (pos 4) (pos 16) ≡ None
  pub two_words : tone_memory (pos 0 ∷ pos 4 ∷ []) ≡ None
  pub four_words : tone_memory (pos 0 ∷ pos 4 ∷ pos 0 ∷ pos 0 ∷ []) ≡ None

pub record ControlRows : Type 0 where
  pub set_none : tone_filter.accepts fours (Set []) ≡ false
  pub set_one : tone_filter.accepts fours (Set (pos 16384 ∷ [])) ≡ true
  pub set_two : tone_filter.accepts fours (Set (pos 1 ∷ pos 2 ∷ [])) ≡ false
  pub reset : tone_filter.accepts fours Reset ≡ true
  pub get : tone_filter.accepts fours Get ≡ true
  pub got_3 : tone_filter.got fours (set_to_1 (with_samples [] (replicate 3 (pos 9)))) ≡ pos 3 ∷ []
  pub got_full : tone_filter.got fours (with_samples [] (replicate 4 (pos 9))) ≡ pos 0 ∷ []
  pub got_next : tone_filter.got fours (with_samples [] (replicate 5 (pos 9))) ≡ pos 1 ∷ []
  pub got_reset : tone_filter.got fours (Control Reset ∷ with_samples [] (replicate 3 (pos 9))) ≡ pos 0 ∷ []
