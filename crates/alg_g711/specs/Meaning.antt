-- What a coder means.
use Rattle.std.specs.Prelude.{zero, suc, ◌%◌, ℤ, pos, true, false, List, [], ◌∷◌, Option, Some, None, option_map}
use Rattle.std.specs.Int.{w16, cast_unsigned}
use Rattle.mem_rec.specs.declared.MemRec.{MemRec}
use Rattle.mem_rec.specs.declared.Space.TheVariants.{External}
use Rattle.mem_rec.specs.declared.Attr.TheVariants.{WriteOnce}
use Rattle.ialg.specs.History.{History, Sample}
use Rattle.ialg.specs.Meaning.{Meaning, accepts_set}
use Rattle.ialg.specs.Objects.{object_memory}
use Rattle.alg_g711.specs.declared.TheConstants.{CODES, SAMPLES_ALIGNMENT, A_ENCODER_KIND, A_DECODER_KIND, MU_ENCODER_KIND, MU_DECODER_KIND}
use Rattle.alg_g711.specs.declared.companding.Law.{Law}
use Rattle.alg_g711.specs.declared.companding.Law.TheVariants.{A, Mu}
use Rattle.alg_g711.specs.declared.coder.Direction.{Direction}
use Rattle.alg_g711.specs.declared.coder.Direction.TheVariants.{Encode, Decode}
use Rattle.alg_g711.specs.declared.coder.Coder.{Coder}
use Rattle.alg_g711.specs.Companding.{encoded, decoded}

-- ---- parameters: the law, 0 for A and 1 for mu, and the direction, 0 to encode and 1 to decode

abbrev pub coder_named : List ℤ → Option Coder
coder_named (pos zero ∷ pos zero ∷ []) = Some (record { law = A; direction = Encode })
coder_named (pos zero ∷ pos (suc zero) ∷ []) = Some (record { law = A; direction = Decode })
coder_named (pos (suc zero) ∷ pos zero ∷ []) = Some (record { law = Mu; direction = Encode })
coder_named (pos (suc zero) ∷ pos (suc zero) ∷ []) = Some (record { law = Mu; direction = Decode })
coder_named _ = None

-- the kind word of a coder's object
abbrev pub kind_word : Law → Direction → ℤ
kind_word A Encode = A_ENCODER_KIND
kind_word A Decode = A_DECODER_KIND
kind_word Mu Encode = MU_ENCODER_KIND
kind_word Mu Decode = MU_DECODER_KIND

-- ---- records

-- the object, and of a decoder the samples of the codes
abbrev pub records_of : Direction → List MemRec
records_of Encode = object_memory ∷ []
records_of Decode = object_memory ∷ record { size = CODES; align = SAMPLES_ALIGNMENT; space = External; attr = WriteOnce; base = 0 } ∷ []

-- ---- outputs

-- one word: a code for a sample, or a sample for a code, which is the lower octet of its word
abbrev pub coded : Law → Direction → ℤ → ℤ
coded law Encode x = pos (encoded law x)
coded law Decode x = decoded law (cast_unsigned w16 x % CODES)

-- what the newest sample gives
abbrev pub given_by : Option Coder → History → List ℤ
given_by (Some coder) (Sample x ∷ h) = coded coder.law coder.direction x ∷ []
given_by _ _ = []

-- lawful for all parameters; no `set` is accepted, and the answer to `get` is the parameters
abbrev pub g711_meaning : {M : Type 0} → Meaning M
g711_meaning = record {
  same = λ a b. true;
  table = λ _ p. option_map (λ coder. records_of coder.direction) (coder_named p);
  gives = λ _ p. given_by (coder_named p);
  accepts = λ _ p. accepts_set (λ words. false);
  got = λ _ p h. p;
  declares = λ _ p. true;
  lawful = λ _ p w. true;
}
