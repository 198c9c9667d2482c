-- Worked rows: what filters and decimators give and take.
use Rattle.std.specs.Prelude.{◌≡◌, ℤ, pos, negsuc, Bool, true, false, List, [], ◌∷◌, replicate, Some, is_some, option_map}
use Rattle.mem_rec.specs.declared.MemRec.{MemRec}
use Rattle.mem_rec.specs.declared.Space.TheVariants.{Daram, Saram, External}
use Rattle.mem_rec.specs.declared.Attr.TheVariants.{Scratch, Persist, WriteOnce}
use Rattle.ialg.specs.History.{History, Control, Set, Reset, Get, with_samples}
use Rattle.ialg.specs.Meaning.{Meaning, outputs_of}
use Rattle.ialg.specs.Filters.{filter_records}
use Rattle.alg_fir.specs.declared.decimator.Decim.{Decim}
use Rattle.alg_fir.specs.Equation.{fir_outputs}
use Rattle.alg_fir.specs.Meaning.{fir_memory, fir_filter}
use Rattle.alg_fir.specs.DecimMeaning.{decim_meaning}

-- the mean of two samples
abbrev pub mean : List ℤ
mean = pos 16384 ∷ pos 16384 ∷ []

pub record FilterRows : Type 0 where
  pub halves : fir_outputs (pos 16384 ∷ []) (with_samples [] (pos 1 ∷ negsuc 0 ∷ [])) ≡ pos 1 ∷ pos 0 ∷ []
  pub means : fir_outputs mean (with_samples [] (pos 2 ∷ pos 4 ∷ pos 6 ∷ [])) ≡ pos 1 ∷ pos 3 ∷ pos 5 ∷ []
  pub product_is_limited : fir_outputs (negsuc 32767 ∷ []) (with_samples [] (negsuc 32767 ∷ [])) ≡ pos 32767 ∷ []
  -- the second sum is limited before the third product comes to it
  pub sums_are_limited : fir_outputs (pos 32767 ∷ pos 32767 ∷ negsuc 32767 ∷ []) (with_samples [] (replicate 3 (pos 32767)))
      ≡ pos 32766 ∷ pos 32767 ∷ pos 1 ∷ []
  pub kept_over_set : fir_outputs mean (with_samples (Control (Set (pos 8192 ∷ pos 16384 ∷ [])) ∷ with_samples [] (pos 2 ∷ [])) (pos 4 ∷ []))
      ≡ pos 1 ∷ pos 2 ∷ []
  pub reset_within : fir_outputs mean (with_samples (Control Reset ∷ with_samples [] (pos 2 ∷ pos 4 ∷ [])) (pos 6 ∷ [])) ≡ pos 1 ∷ pos 3 ∷ pos 3 ∷ []

abbrev pub decimating : Meaning Decim
decimating = decim_meaning

-- what a decimator by 2 gives and answers
abbrev pub by_two : History → List ℤ
by_two h = outputs_of decimating (record {}) (pos 2 ∷ mean) h

abbrev pub phase_of : History → List ℤ
phase_of h = decimating.got (record {}) (pos 2 ∷ mean) h

pub record DecimatorRows : Type 0 where
  pub means : by_two (with_samples [] (pos 2 ∷ pos 4 ∷ pos 6 ∷ pos 8 ∷ [])) ≡ pos 3 ∷ pos 7 ∷ []
  pub unfinished : by_two (with_samples [] (pos 2 ∷ pos 4 ∷ pos 6 ∷ [])) ≡ pos 3 ∷ []
  pub phase_between : phase_of (with_samples [] (pos 2 ∷ pos 4 ∷ pos 6 ∷ [])) ≡ pos 1 ∷ []
  -- the phase is 0 after a reset, and past samples are
  pub reset_within : by_two (with_samples (Control Reset ∷ with_samples [] (pos 2 ∷ [])) (pos 4 ∷ pos 6 ∷ [])) ≡ pos 5 ∷ []
  pub phase_after_reset : phase_of (Control Reset ∷ with_samples [] (pos 2 ∷ [])) ≡ pos 0 ∷ []

abbrev pub object : MemRec
object = record { size = 4; align = 4; space = External; attr = Persist; base = 0 }

pub record TableRows : Type 0 where
  pub filter : option_map filter_records (fir_memory mean) ≡ Some (
      object
      ∷ record { size = 3; align = 4; space = Saram; attr = Persist; base = 0 }
      ∷ record { size = 1025; align = 16; space = Daram; attr = Scratch; base = 0 }
      ∷ [])
  pub decimator : decimating.table (record {}) (pos 2 ∷ mean) ≡ Some (
      object
      ∷ record { size = 2; align = 4; space = Saram; attr = Persist; base = 0 }
      ∷ record { size = 3; align = 8; space = External; attr = WriteOnce; base = 0 }
      ∷ record { size = 1025; align = 16; space = Daram; attr = Scratch; base = 0 }
      ∷ [])

-- whether parameters are taken
abbrev pub filters : List ℤ → Bool
filters p = is_some (fir_memory p)

abbrev pub decimates : List ℤ → Bool
decimates p = is_some (decimating.table (record {}) p)

pub record ParameterRows : Type 0 where
  pub no_coefficient : filters [] ≡ false
  pub one_coefficient : filters (pos 1 ∷ []) ≡ true
  pub all_coefficients : filters (replicate 64 (pos 1)) ≡ true
  pub too_many_coefficients : filters (replicate 65 (pos 1)) ≡ false
  pub no_factor : decimates [] ≡ false
  pub factor_alone : decimates (pos 2 ∷ []) ≡ false
  pub factor_0 : decimates (pos 0 ∷ mean) ≡ false
  pub factor_below_0 : decimates (negsuc 0 ∷ mean) ≡ false
  pub factor_1 : decimates (pos 1 ∷ mean) ≡ true
  pub factor_16 : decimates (pos 16 ∷ mean) ≡ true
  pub factor_17 : decimates (pos 17 ∷ mean) ≡ false
  pub decimator_of_64 : decimates (pos 2 ∷ replicate 64 (pos 1)) ≡ true
  pub decimator_of_65 : decimates (pos 2 ∷ replicate 65 (pos 1)) ≡ false

pub record ControlRows : Type 0 where
  pub set_of_another_length : fir_filter.accepts mean (Set (pos 1 ∷ [])) ≡ false
  pub set_of_the_length : fir_filter.accepts mean (Set mean) ≡ true
  pub decimator_set : decimating.accepts (record {}) (pos 2 ∷ mean) (Set mean) ≡ false
  pub decimator_reset : decimating.accepts (record {}) (pos 2 ∷ mean) Reset ≡ true
  pub decimator_get : decimating.accepts (record {}) (pos 2 ∷ mean) Get ≡ true
  pub got_created : fir_filter.got mean (with_samples [] (pos 2 ∷ [])) ≡ mean
  pub got_set : fir_filter.got mean (Control (Set (pos 8192 ∷ pos 16384 ∷ [])) ∷ []) ≡ pos 8192 ∷ pos 16384 ∷ []
