-- How the words of an instance of a gateway's kind keep its history, which is as its kind does.
use Rattle.std.specs.Prelude.{ℕ, ℤ, List, []}
use Rattle.ialg.specs.declared.TheConstants.{FILTER_RECORDS}
use Rattle.ialg.specs.Filters as filters
use Rattle.ialg.specs.Laws.{Laws, Relation}
use Rattle.kind_parts.specs.Either.{told, either_refines}
use Rattle.kind_parts.specs.declared.mapping.Mapped.{Mapped}
use Rattle.kind_parts.specs.declared.framing.Framed.{Framed}
use Rattle.kind_parts.specs.declared.words.TheConstants.{SUM_WORDS}
use Rattle.kind_parts.specs.Mappings.{Maps}
use Rattle.kind_parts.specs.Framings.{RestsInFrame, RunsInFrame}
use Rattle.voice_set.specs.Keeps as voice
use Rattle.alg_gain.specs.declared.Amplifier.{Amplifier}
use Rattle.alg_gain.specs.declared.TheConstants.{GAIN_KIND}
use Rattle.alg_gain.specs.Equation.{is_factor}
use Rattle.alg_level.specs.declared.Meter.{Meter}
use Rattle.alg_level.specs.declared.TheConstants.{LEVEL_KIND}
use Rattle.alg_level.specs.Equation.{is_meter, energy_words}
use Rattle.alg_dtmf.specs.declared.detector.Dtmf.{Dtmf}
use Rattle.alg_dtmf.specs.declared.TheConstants.{DTMF_KIND}
use Rattle.alg_dtmf.specs.Meaning.{dtmf_memory}
use Rattle.alg_dtmf.specs.Keeps as dtmf
use Rattle.kind_steps.specs.declared.recursion.Recursive.{Recursive}
use Rattle.kind_steps.specs.declared.stepping.Stepped.{Stepped}
use Rattle.kind_steps.specs.Pairings.{two_samples}
use Rattle.kind_steps.specs.Recursions.{RestsByRecursion, RunsByRecursion}
use Rattle.kind_steps.specs.Steppings.{RestsInSteps, RunsInSteps}
use Rattle.echo_kernel.specs.Equation.{is_canceller}
use Rattle.echo_kernel.specs.Keeps as echo
use Rattle.alg_echo.specs.declared.TheConstants.{ECHO_KIND}
use Rattle.adpcm_kernel.specs.Subblocks as adpcm
use Rattle.alg_adpcm.specs.declared.TheConstants as adpcm_words
use Rattle.alg_adpcm.specs.declared.coder.Coding.{Coding}
use Rattle.alg_adpcm.specs.Meaning.{coder_named}
use Rattle.alg_adpcm.specs.Words as coder
use Rattle.alg_signal.specs.declared.TheConstants as signal_words
use Rattle.alg_signal.specs.declared.generator.Generator.{Generator}
use Rattle.alg_signal.specs.Tones as tones
use Rattle.alg_activity.specs.declared.TheConstants as activity_words
use Rattle.alg_activity.specs.declared.detector.Detector.{Detector}
use Rattle.alg_activity.specs.Equation as talk
use Rattle.alg_activity.specs.Keeps as heard
use Rattle.gateway_kinds.specs.Kinds.{Canceling, Kind, kind_meaning, gain_filter, level_filter, echo_filter, adpcm_filter, signal_filter, activity_filter}

abbrev pub gain_idle : Relation (Mapped Amplifier)
gain_idle _ p rs wss l = filters.IsIdle GAIN_KIND (gain_filter.memory p) (Maps is_factor p l.history) rs wss

abbrev pub gain_active : Relation (Mapped Amplifier)
gain_active _ p rs wss l = filters.IsActive GAIN_KIND (gain_filter.memory p) (λ kept running. Maps is_factor p l.history kept) rs wss

abbrev pub level_idle : Relation (Framed Meter)
level_idle _ p rs wss l = filters.IsIdle LEVEL_KIND (level_filter.memory p) (RestsInFrame SUM_WORDS is_meter energy_words p l.history) rs wss

abbrev pub level_active : Relation (Framed Meter)
level_active _ p rs wss l = filters.IsActive LEVEL_KIND (level_filter.memory p) (RunsInFrame SUM_WORDS is_meter energy_words p l.history) rs wss

abbrev pub dtmf_idle : Relation Dtmf
dtmf_idle _ p rs wss l = filters.IsIdle DTMF_KIND (dtmf_memory p) (dtmf.Rests p l.history) rs wss

abbrev pub dtmf_active : Relation Dtmf
dtmf_active _ p rs wss l = filters.IsActive DTMF_KIND (dtmf_memory p) (dtmf.Runs p l.history) rs wss

abbrev pub echo_idle : Relation Canceling
echo_idle _ p rs wss l = filters.IsIdle ECHO_KIND (echo_filter.memory p) (RestsInSteps two_samples echo.state_words is_canceller echo.words_of p l.history) rs wss

abbrev pub echo_active : Relation Canceling
echo_active _ p rs wss l = filters.IsActive ECHO_KIND (echo_filter.memory p) (RunsInSteps two_samples echo.state_words is_canceller echo.words_of p l.history) rs wss

abbrev pub adpcm_idle : Relation (Recursive Coding)
adpcm_idle _ p rs wss l =
    filters.IsIdle adpcm_words.ADPCM_KIND (adpcm_filter.memory p) (RestsByRecursion adpcm.initial_state adpcm.taken adpcm_words.STATE_WORDS coder_named coder.words_of p l.history) rs wss

abbrev pub adpcm_active : Relation (Recursive Coding)
adpcm_active _ p rs wss l =
    filters.IsActive adpcm_words.ADPCM_KIND (adpcm_filter.memory p) (RunsByRecursion adpcm.initial_state adpcm.taken adpcm_words.STATE_WORDS coder_named coder.words_of p l.history) rs wss

abbrev pub signal_idle : Relation (Recursive Generator)
signal_idle _ p rs wss l =
    filters.IsIdle signal_words.SIGNAL_KIND (signal_filter.memory p) (RestsByRecursion tones.initial_tones tones.taken signal_words.STATE_WORDS tones.cadence_named tones.words_of p l.history) rs wss

abbrev pub signal_active : Relation (Recursive Generator)
signal_active _ p rs wss l =
    filters.IsActive signal_words.SIGNAL_KIND (signal_filter.memory p) (RunsByRecursion tones.initial_tones tones.taken signal_words.STATE_WORDS tones.cadence_named tones.words_of p l.history) rs wss

abbrev pub activity_idle : Relation (Stepped Detector)
activity_idle _ p rs wss l =
    filters.IsIdle activity_words.ACTIVITY_KIND (activity_filter.memory p) (RestsInSteps talk.frame_length heard.state_words talk.is_detector heard.words_of p l.history) rs wss

abbrev pub activity_active : Relation (Stepped Detector)
activity_active _ p rs wss l =
    filters.IsActive activity_words.ACTIVITY_KIND (activity_filter.memory p) (RunsInSteps talk.frame_length heard.state_words talk.is_detector heard.words_of p l.history) rs wss

abbrev pub IsIdle : Relation Kind
IsIdle k =
    either_refines voice.IsIdle (either_refines gain_idle (either_refines level_idle (either_refines dtmf_idle (either_refines echo_idle (either_refines adpcm_idle
    (either_refines signal_idle activity_idle)))))) k.kind

abbrev pub IsActive : Relation Kind
IsActive k =
    either_refines voice.IsActive (either_refines gain_active (either_refines level_active (either_refines dtmf_active (either_refines echo_active (either_refines adpcm_active
    (either_refines signal_active activity_active)))))) k.kind

-- a filter has no more records, and none that is write-once
abbrev pub filter_bound : {A : Type 0} → A → ℕ
filter_bound _ = FILTER_RECORDS

abbrev pub no_fill : {A : Type 0} → A → List ℤ → ℕ → List ℤ
no_fill _ p k = []

-- what the kinds mean, and what keeps a history of an instance of one
abbrev pub kind_laws : Laws Kind
kind_laws = record {
  meaning = kind_meaning;
  bound = λ k. told voice.voice_bound (told filter_bound (told filter_bound (told filter_bound (told filter_bound (told filter_bound (told filter_bound filter_bound)))))) k.kind;
  fill = λ k. told voice.voice_fill (told no_fill (told no_fill (told no_fill (told no_fill (told no_fill (told no_fill no_fill)))))) k.kind;
  idle_refines = IsIdle;
  active_refines = IsActive;
}
