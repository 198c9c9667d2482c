-- For private clauses alone: how the words of a voice keep its history, which is as its kind does.
use Rattle.std.specs.Prelude.{ℕ, ℤ, List, []}
use Rattle.mem_rec.specs.declared.MemRec.{MemRec}
use Rattle.ialg.specs.declared.TheConstants.{FILTER_RECORDS}
use Rattle.ialg.specs.Log.{Log}
use Rattle.ialg.specs.Filters as filters
use Rattle.alg_fir.specs.declared.TheConstants.{DECIM_RECORDS}
use Rattle.alg_fir.specs.Keeps as fir
use Rattle.alg_fir.specs.DecimKeeps as decim
use Rattle.alg_fir.specs.Meaning.{fir_memory}
use Rattle.alg_biquad.specs.Keeps as biquad
use Rattle.alg_biquad.specs.Meaning.{biquad_memory}
use Rattle.alg_tone.specs.Keeps as tone
use Rattle.alg_tone.specs.Meaning.{tone_memory}
use Rattle.alg_g711.specs.declared.TheConstants.{CODER_RECORDS}
use Rattle.alg_g711.specs.Keeps as g711
use Rattle.alg_g711.specs.Meaning.{coder_named}
use Rattle.voice_set.specs.declared.voice.Voice.{Voice}
use Rattle.voice_set.specs.declared.voice.Voice.TheVariants.{Fir, Decim, Biquad, Tone, G711}

-- the most records that a table of a voice has
abbrev pub voice_bound : Voice → ℕ
voice_bound Decim = DECIM_RECORDS
voice_bound G711 = CODER_RECORDS
voice_bound _ = FILTER_RECORDS

-- the words of write-once record k
abbrev pub voice_fill : Voice → List ℤ → ℕ → List ℤ
voice_fill Decim p k = p
voice_fill G711 p k = g711.fill_of (coder_named p) k
voice_fill _ p k = []

abbrev pub IsIdle : Voice → List ℤ → List MemRec → List (List ℤ) → Log → Type 0
IsIdle Fir p rs wss l = filters.IsIdle fir.fir_kind (fir_memory p) (fir.Rests p l.history) rs wss
IsIdle Decim p rs wss l = decim.IsIdleDecim p rs wss l.history
IsIdle Biquad p rs wss l = filters.IsIdle biquad.biquad_kind (biquad_memory p) (biquad.Rests p l.history) rs wss
IsIdle Tone p rs wss l = filters.IsIdle tone.tone_kind (tone_memory p) (tone.Rests p l.history) rs wss
IsIdle G711 p rs wss l = g711.Keeps p rs wss l.history

abbrev pub IsActive : Voice → List ℤ → List MemRec → List (List ℤ) → Log → Type 0
IsActive Fir p rs wss l = filters.IsActive fir.fir_kind (fir_memory p) (fir.Runs p l.history) rs wss
IsActive Decim p rs wss l = decim.IsActiveDecim p rs wss l.history
IsActive Biquad p rs wss l = filters.IsActive biquad.biquad_kind (biquad_memory p) (biquad.Runs p l.history) rs wss
IsActive Tone p rs wss l = filters.IsActive tone.tone_kind (tone_memory p) (tone.Runs p l.history) rs wss
IsActive G711 p rs wss l = g711.Keeps p rs wss l.history
