-- Worked rows: what coders give and take.
use Rattle.std.specs.Prelude.{◌≡◌, ℤ, pos, negsuc, List, [], ◌∷◌, Some, None}
use Rattle.ialg.specs.History.{with_samples, outputs_by}
use Rattle.adpcm_kernel.specs.declared.rate.Rate.{Rate}
use Rattle.adpcm_kernel.specs.declared.rate.Rate.TheVariants.{Kbits16, Kbits24, Kbits32, Kbits40}
use Rattle.adpcm_kernel.specs.declared.rate.Direction.{Direction}
use Rattle.adpcm_kernel.specs.declared.rate.Direction.TheVariants.{Encode, Decode}
use Rattle.adpcm_kernel.specs.Subblocks.{initial_state, taken}
use Rattle.kind_steps.specs.Recursions.{gives_by_recursion}
use Rattle.alg_adpcm.specs.Meaning.{coder_named}

abbrev pub coded : Rate → Direction → List ℤ → List ℤ
coded rate direction xs = outputs_by (gives_by_recursion initial_state taken (record { rate = rate; direction = direction })) (with_samples [] xs)

pub record CodeRows : Type 0 where
  -- silence is below each level: 0 less 544 / 4. Of 4000 the difference is 1000, its logarithm 9 * 128 + 122, and that less 136 above all
  pub at_16 : coded Kbits16 Encode (pos 0 ∷ pos 4000 ∷ []) ≡ pos 0 ∷ pos 1 ∷ []
  pub at_24 : coded Kbits24 Encode (pos 0 ∷ pos 4000 ∷ []) ≡ pos 7 ∷ pos 3 ∷ []
  pub at_32 : coded Kbits32 Encode (pos 0 ∷ pos 4000 ∷ []) ≡ pos 15 ∷ pos 7 ∷ []
  pub at_40 : coded Kbits40 Encode (pos 0 ∷ pos 4000 ∷ []) ≡ pos 31 ∷ pos 15 ∷ []
  -- of the model that was written apart
  pub decoded : coded Kbits32 Decode (pos 15 ∷ pos 7 ∷ pos 8 ∷ pos 7 ∷ []) ≡ pos 0 ∷ pos 88 ∷ negsuc 119 ∷ pos 172 ∷ []

pub record ParameterRows : Type 0 where
  pub kbits_32 : coder_named (pos 32 ∷ pos 1 ∷ []) ≡ Some (record { rate = Kbits32; direction = Decode })
  pub kbits_8 : coder_named (pos 8 ∷ pos 0 ∷ []) ≡ None
  pub other_direction : coder_named (pos 32 ∷ pos 2 ∷ []) ≡ None
  pub one_word : coder_named (pos 32 ∷ []) ≡ None
