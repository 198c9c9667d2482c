-- What a decimator means.
use Rattle.std.specs.Prelude.{ℕ, ℤ, pos, Bool, true, false, ◌+◌, ◌-◌, ◌&&◌, nat_le, List, [], ◌∷◌, length, Some, None, if◌then◌else◌}
use Rattle.mem_rec.specs.declared.TheConstants.{LEAST_ALIGNMENT}
use Rattle.mem_rec.specs.declared.MemRec.{MemRec}
use Rattle.mem_rec.specs.declared.Space.TheVariants.{Daram, Saram, External}
use Rattle.mem_rec.specs.declared.Attr.TheVariants.{Scratch, Persist, WriteOnce}
use Rattle.ialg.specs.declared.TheConstants.{BLOCK_SAMPLES}
use Rattle.ialg.specs.History.{samples_in_frame, word_at}
use Rattle.ialg.specs.Meaning.{Meaning, is_between, accepts_set}
use Rattle.ialg.specs.Objects.{object_memory}
use Rattle.fir_kernel.specs.declared.TheConstants.{MOST_COEFFICIENTS}
use Rattle.alg_fir.specs.declared.TheConstants.{CONSTANTS_ALIGNMENT, LINE_ALIGNMENT, MOST_FACTOR}
use Rattle.alg_fir.specs.Decimation.{factor, decim_gives}

-- the parameters are a factor of 1 to 16, and 1 to 64 coefficients
abbrev pub decim_takes : List ℤ → Bool
decim_takes p = (nat_le 2 (length p) && nat_le (length p - 1) MOST_COEFFICIENTS) && is_between (pos 1) MOST_FACTOR (word_at p 0)

-- of so many coefficients: the object; the phase and the past samples; the parameters; a ring of the past samples and a block, less one, and its place
abbrev pub decim_records : ℕ → List MemRec
decim_records taps =
    object_memory
    ∷ record { size = taps; align = LEAST_ALIGNMENT; space = Saram; attr = Persist; base = 0 }
    ∷ record { size = taps + 1; align = CONSTANTS_ALIGNMENT; space = External; attr = WriteOnce; base = 0 }
    ∷ record { size = taps - 1 + BLOCK_SAMPLES; align = LINE_ALIGNMENT; space = Daram; attr = Scratch; base = 0 } ∷ []

-- lawful for all parameters; no `set` is accepted, and `get` gives the phase, which is how many samples the frame has so far
abbrev pub decim_meaning : {M : Type 0} → Meaning M
decim_meaning = record {
  same = λ a b. true;
  table = λ _ p. if decim_takes p then Some (decim_records (length p - 1)) else None;
  gives = λ _. decim_gives;
  accepts = λ _ p. accepts_set (λ words. false);
  got = λ _ p h. pos (samples_in_frame (factor p) h) ∷ [];
  declares = λ _ p. true;
  lawful = λ _ p w. true;
}
