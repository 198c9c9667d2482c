-- The hosted kinds as one: what each means, and its name.
use Rattle.std.specs.Prelude.{ℕ, List, [], ◌∷◌, Option, find, bytes_eq, codes}
use Rattle.ialg.specs.Meaning.{Meaning}
use Rattle.ialg.specs.Filters.{meaning_of}
use Rattle.alg_fir.specs.Meaning.{fir_filter}
use Rattle.alg_fir.specs.DecimMeaning.{decim_meaning}
use Rattle.alg_biquad.specs.Meaning.{biquad_filter}
use Rattle.alg_tone.specs.Meaning.{tone_filter}
use Rattle.alg_g711.specs.Meaning.{g711_meaning}
use Rattle.voice_set.specs.declared.voice.Voice.{Voice}
use Rattle.voice_set.specs.declared.voice.Voice.TheVariants.{Fir, Decim, Biquad, Tone, G711}

-- a voice means what its kind means
abbrev pub meaning_by : Voice → Meaning Voice
meaning_by Fir = meaning_of fir_filter
meaning_by Decim = decim_meaning
meaning_by Biquad = meaning_of biquad_filter
meaning_by Tone = meaning_of tone_filter
meaning_by G711 = g711_meaning

-- its name in scripts
abbrev pub voice_name : Voice → List ℕ
voice_name Fir = codes "fir"
voice_name Decim = codes "decim"
voice_name Biquad = codes "biquad"
voice_name Tone = codes "tone"
voice_name G711 = codes "g711"

-- two voices are one where they have one name
abbrev pub voice_meaning : Meaning Voice
voice_meaning = record {
  same = λ v w. bytes_eq (voice_name v) (voice_name w);
  table = λ v. (meaning_by v).table v;
  gives = λ v. (meaning_by v).gives v;
  accepts = λ v. (meaning_by v).accepts v;
  got = λ v. (meaning_by v).got v;
  declares = λ v. (meaning_by v).declares v;
  lawful = λ v. (meaning_by v).lawful v;
}

-- the voice of this name
abbrev pub voice_named : List ℕ → Option Voice
voice_named name = find (λ v. bytes_eq name (voice_name v)) (Fir ∷ Decim ∷ Biquad ∷ Tone ∷ G711 ∷ [])
