-- Worked rows: what filters give and take.
use Rattle.std.specs.Prelude.{◌≡◌, ℤ, pos, negsuc, true, false, List, [], ◌∷◌, replicate, Some, None, option_map}
use Rattle.mem_rec.specs.declared.Space.TheVariants.{Daram, Saram, External}
use Rattle.mem_rec.specs.declared.Attr.TheVariants.{Scratch, Persist}
use Rattle.ialg.specs.History.{Control, Set, Reset, Get, with_samples}
use Rattle.ialg.specs.Filters.{filter_records}
use Rattle.alg_biquad.specs.Equation.{biquad_outputs}
use Rattle.alg_biquad.specs.Meaning.{biquad_memory, biquad_filter}

-- each output is halved and fed back
abbrev pub halving : List ℤ
halving = pos 16384 ∷ pos 0 ∷ pos 0 ∷ negsuc 8191 ∷ pos 0 ∷ []

pub record OutputRows : Type 0 where
  pub fed_back : biquad_outputs halving (with_samples [] (pos 100 ∷ pos 0 ∷ pos 0 ∷ pos 0 ∷ [])) ≡ pos 100 ∷ pos 50 ∷ pos 25 ∷ pos 13 ∷ []
  -- halves are rounded up
  pub below_0 : biquad_outputs halving (with_samples [] (negsuc 99 ∷ pos 0 ∷ pos 0 ∷ pos 0 ∷ [])) ≡ negsuc 99 ∷ negsuc 49 ∷ negsuc 24 ∷ negsuc 11 ∷ []
  pub other_coefficients : biquad_outputs (pos 0 ∷ pos 16384 ∷ pos 8192 ∷ pos 0 ∷ negsuc 8191 ∷ []) (with_samples [] (pos 100 ∷ pos 0 ∷ pos 0 ∷ pos 0 ∷ pos 0 ∷ []))
      ≡ pos 0 ∷ pos 100 ∷ pos 50 ∷ pos 50 ∷ pos 25 ∷ []
  pub limited : biquad_outputs (pos 32767 ∷ replicate 4 (pos 0)) (with_samples [] (pos 32767 ∷ negsuc 32767 ∷ [])) ≡ pos 32767 ∷ negsuc 32767 ∷ []
  -- samples come before outputs, and each sum is limited before the next product
  pub samples_in_order : biquad_outputs (pos 32767 ∷ pos 32767 ∷ negsuc 32767 ∷ pos 0 ∷ pos 0 ∷ []) (with_samples [] (replicate 3 (pos 32767)))
      ≡ pos 32767 ∷ pos 32767 ∷ pos 2 ∷ []
  pub samples_first : biquad_outputs (pos 32767 ∷ pos 32767 ∷ pos 0 ∷ pos 32767 ∷ pos 0 ∷ []) (with_samples [] (replicate 2 (pos 32767)))
      ≡ pos 32767 ∷ pos 4 ∷ []
  pub outputs_in_order : biquad_outputs (pos 32767 ∷ replicate 4 (pos 0))
      (with_samples (Control (Set (negsuc 32767 ∷ pos 0 ∷ pos 0 ∷ pos 32767 ∷ negsuc 32767 ∷ [])) ∷ with_samples [] (replicate 2 (pos 32767))) (pos 32767 ∷ []))
      ≡ pos 32767 ∷ pos 32767 ∷ negsuc 1 ∷ []
  -- a `set` keeps two past samples and two past outputs: 40 / 2 + 100 + 20 / 2 + 50
  pub kept_over_set : biquad_outputs (pos 8192 ∷ replicate 4 (pos 0))
      (with_samples (Control (Set (pos 0 ∷ pos 8192 ∷ pos 16384 ∷ negsuc 8191 ∷ negsuc 16383 ∷ [])) ∷ with_samples [] (pos 100 ∷ pos 40 ∷ [])) (pos 0 ∷ []))
      ≡ pos 50 ∷ pos 20 ∷ pos 180 ∷ []
  pub reset_within : biquad_outputs halving (with_samples (Control Reset ∷ with_samples [] (pos 100 ∷ pos 0 ∷ [])) (pos 0 ∷ pos 64 ∷ []))
      ≡ pos 100 ∷ pos 50 ∷ pos 0 ∷ pos 64 ∷ []

pub record ParameterRows : Type 0 where
  pub four : biquad_memory (replicate 4 (pos 0)) ≡ None
  pub five : option_map filter_records (biquad_memory (replicate 5 (pos 0))) ≡ Some (
      record { size = 4; align = 4; space = External; attr = Persist; base = 0 }
      ∷ record { size = 9; align = 4; space = Saram; attr = Persist; base = 0 }
      ∷ record { size = 4; align = 4; space = Daram; attr = Scratch; base = 0 }
      ∷ [])
  pub six : biquad_memory (replicate 6 (pos 0)) ≡ None

pub record ControlRows : Type 0 where
  pub set_four : biquad_filter.accepts halving (Set (replicate 4 (pos 0))) ≡ false
  pub set_five : biquad_filter.accepts halving (Set (replicate 5 (pos 0))) ≡ true
  pub set_six : biquad_filter.accepts halving (Set (replicate 6 (pos 0))) ≡ false
  pub reset : biquad_filter.accepts halving Reset ≡ true
  pub get : biquad_filter.accepts halving Get ≡ true
  pub got_created : biquad_filter.got halving (with_samples [] (pos 100 ∷ [])) ≡ halving
  pub got_set : biquad_filter.got (replicate 5 (pos 0)) (Control Reset ∷ with_samples (Control (Set halving) ∷ []) (pos 100 ∷ [])) ≡ halving
