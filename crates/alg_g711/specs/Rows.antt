-- Worked rows: codes of samples, samples of codes, and what coders give and take.
use Rattle.std.specs.Prelude.{◌≡◌, ℤ, pos, negsuc, true, false, List, [], ◌∷◌, Some, None}
use Rattle.mem_rec.specs.declared.MemRec.{MemRec}
use Rattle.mem_rec.specs.declared.Space.TheVariants.{External}
use Rattle.mem_rec.specs.declared.Attr.TheVariants.{Persist, WriteOnce}
use Rattle.ialg.specs.History.{Set, Reset, Get, with_samples}
use Rattle.ialg.specs.Meaning.{Meaning, outputs_of}
use Rattle.alg_g711.specs.declared.companding.Law.TheVariants.{A, Mu}
use Rattle.alg_g711.specs.declared.coder.Direction.TheVariants.{Encode, Decode}
use Rattle.alg_g711.specs.declared.kind.G711.{G711}
use Rattle.alg_g711.specs.Companding.{encoded, decoded}
use Rattle.alg_g711.specs.Meaning.{g711_meaning, kind_word}

pub record CodeRows : Type 0 where
  pub a_zero : encoded A (pos 0) ≡ 213
  pub a_below_0 : encoded A (negsuc 0) ≡ 85
  pub mu_zero : encoded Mu (pos 0) ≡ 255
  pub mu_below_0 : encoded Mu (negsuc 0) ≡ 127
  pub mu_greatest : encoded Mu (pos 32767) ≡ 128
  pub mu_least : encoded Mu (negsuc 32767) ≡ 0

pub record SampleRows : Type 0 where
  pub a_greatest : decoded A 170 ≡ pos 32256
  pub a_least : decoded A 42 ≡ negsuc 32255
  pub a_zero : decoded A 213 ≡ pos 8
  pub a_below_0 : decoded A 85 ≡ negsuc 7
  pub mu_greatest : decoded Mu 128 ≡ pos 32124
  pub mu_least : decoded Mu 0 ≡ negsuc 32123
  pub mu_zero : decoded Mu 255 ≡ pos 0
  pub mu_below_0 : decoded Mu 127 ≡ pos 0

abbrev pub coding : Meaning G711
coding = g711_meaning

-- what a coder with these parameters gives for these words
abbrev pub given : List ℤ → List ℤ → List ℤ
given p words = outputs_of coding (record {}) p (with_samples [] words)

pub record CoderRows : Type 0 where
  pub mu_encoder : given (pos 1 ∷ pos 0 ∷ []) (pos 0 ∷ negsuc 0 ∷ pos 32767 ∷ []) ≡ pos 255 ∷ pos 127 ∷ pos 128 ∷ []
  pub a_encoder : given (pos 0 ∷ pos 0 ∷ []) (pos 0 ∷ negsuc 0 ∷ []) ≡ pos 213 ∷ pos 85 ∷ []
  -- the lower octet of -1 is 255
  pub mu_decoder : given (pos 1 ∷ pos 1 ∷ []) (pos 128 ∷ pos 0 ∷ negsuc 0 ∷ []) ≡ pos 32124 ∷ negsuc 32123 ∷ pos 0 ∷ []
  pub a_decoder : given (pos 0 ∷ pos 1 ∷ []) (pos 170 ∷ pos 42 ∷ []) ≡ pos 32256 ∷ negsuc 32255 ∷ []

abbrev pub object : MemRec
object = record { size = 4; align = 4; space = External; attr = Persist; base = 0 }

pub record ParameterRows : Type 0 where
  pub encoder : coding.table (record {}) (pos 0 ∷ pos 0 ∷ []) ≡ Some (object ∷ [])
  pub decoder : coding.table (record {}) (pos 1 ∷ pos 1 ∷ [])
      ≡ Some (object ∷ record { size = 256; align = 8; space = External; attr = WriteOnce; base = 0 } ∷ [])
  pub law_two : coding.table (record {}) (pos 2 ∷ pos 0 ∷ []) ≡ None
  pub law_below_0 : coding.table (record {}) (negsuc 0 ∷ pos 0 ∷ []) ≡ None
  pub direction_two : coding.table (record {}) (pos 0 ∷ pos 2 ∷ []) ≡ None
  pub direction_below_0 : coding.table (record {}) (pos 0 ∷ negsuc 0 ∷ []) ≡ None
  pub one_word : coding.table (record {}) (pos 0 ∷ []) ≡ None
  pub three_words : coding.table (record {}) (pos 0 ∷ pos 0 ∷ pos 0 ∷ []) ≡ None
  pub no_set : coding.accepts (record {}) [] (Set []) ≡ false
  pub reset : coding.accepts (record {}) [] Reset ≡ true
  pub get : coding.accepts (record {}) [] Get ≡ true

-- what an object's first word says
pub record KindRows : Type 0 where
  pub a_encoder : kind_word A Encode ≡ pos 5
  pub a_decoder : kind_word A Decode ≡ pos 6
  pub mu_encoder : kind_word Mu Encode ≡ pos 7
  pub mu_decoder : kind_word Mu Decode ≡ pos 8
