-- The kinds of a gateway, each at its place in the set, and what each means.
use Rattle.std.specs.Prelude.{ℤ, ◌≡◌, List}
use Rattle.ialg.specs.History.{History}
use Rattle.ialg.specs.Meaning.{Meaning, GivesByRule, outputs_of}
use Rattle.ialg.specs.Filters.{FilterMeaning, meaning_of}
use Rattle.kind_parts.specs.declared.either.Or.{Or}
use Rattle.kind_parts.specs.declared.either.Or.TheVariants.{First, Second}
use Rattle.kind_parts.specs.Either.{either_means}
use Rattle.kind_parts.specs.Wrapped.{meaning_in}
use Rattle.kind_parts.specs.declared.mapping.Mapped.{Mapped}
use Rattle.kind_parts.specs.declared.framing.Framed.{Framed}
use Rattle.kind_parts.specs.declared.words.TheConstants.{SUM_WORDS}
use Rattle.kind_parts.specs.Mappings.{mapping_filter}
use Rattle.kind_parts.specs.Framings.{framing_filter}
use Rattle.voice_set.specs.declared.voice.Voice.{Voice}
use Rattle.voice_set.specs.Voices.{voice_meaning}
use Rattle.alg_gain.specs.declared.Amplifier.{Amplifier}
use Rattle.alg_gain.specs.Equation.{is_factor, amplified}
use Rattle.alg_level.specs.declared.Meter.{Meter}
use Rattle.alg_level.specs.Equation.{is_meter, frame_level}
use Rattle.alg_dtmf.specs.declared.detector.Dtmf.{Dtmf}
use Rattle.alg_dtmf.specs.Meaning.{dtmf_filter}
use Rattle.kind_steps.specs.declared.stepping.Stepped.{Stepped}
use Rattle.kind_steps.specs.declared.pairing.OfPairs.{OfPairs}
use Rattle.kind_steps.specs.declared.recursion.Recursive.{Recursive}
use Rattle.kind_steps.specs.Pairings.{two_samples}
use Rattle.kind_steps.specs.Recursions.{recursion_filter}
use Rattle.kind_steps.specs.Steppings.{stepping_filter}
use Rattle.echo_kernel.specs.Equation.{cleared, is_canceller}
use Rattle.echo_kernel.specs.Keeps.{state_words}
use Rattle.alg_echo.specs.declared.canceller.Canceller.{Canceller}
use Rattle.adpcm_kernel.specs.Subblocks as adpcm
use Rattle.alg_adpcm.specs.declared.TheConstants as adpcm_words
use Rattle.alg_adpcm.specs.declared.coder.Coding.{Coding}
use Rattle.alg_adpcm.specs.Meaning.{coder_named}
use Rattle.alg_signal.specs.declared.TheConstants as signal_words
use Rattle.alg_signal.specs.declared.generator.Generator.{Generator}
use Rattle.alg_signal.specs.Tones as tones
use Rattle.alg_activity.specs.declared.detector.Detector.{Detector}
use Rattle.alg_activity.specs.Equation as talk
use Rattle.alg_activity.specs.Keeps as heard
use Rattle.gateway_kinds.specs.declared.kind.GatewayKind.{GatewayKind}

-- a canceller is a kind of pairs
abbrev pub Canceling : Type 0
Canceling = Stepped (OfPairs Canceller)

-- the sets of kinds, in the order in which a name is looked for
abbrev pub Sets : Type 0
Sets = Or Voice (Or (Mapped Amplifier) (Or (Framed Meter) (Or Dtmf (Or Canceling (Or (Recursive Coding) (Or (Recursive Generator) (Stepped Detector)))))))

abbrev pub Kind : Type 0
Kind = GatewayKind

-- a kind of the sets, as one of the gateway
abbrev pub in_gateway : Sets → Kind
in_gateway k = record { kind = k }

abbrev pub of_voice : Voice → Kind
of_voice v = in_gateway (First v)

abbrev pub of_gain : Mapped Amplifier → Kind
of_gain g = in_gateway (Second (First g))

abbrev pub of_level : Framed Meter → Kind
of_level m = in_gateway (Second (Second (First m)))

abbrev pub of_dtmf : Dtmf → Kind
of_dtmf d = in_gateway (Second (Second (Second (First d))))

abbrev pub of_echo : Canceling → Kind
of_echo e = in_gateway (Second (Second (Second (Second (First e)))))

abbrev pub of_adpcm : Recursive Coding → Kind
of_adpcm c = in_gateway (Second (Second (Second (Second (Second (First c))))))

abbrev pub of_signal : Recursive Generator → Kind
of_signal g = in_gateway (Second (Second (Second (Second (Second (Second (First g)))))))

abbrev pub of_activity : Stepped Detector → Kind
of_activity d = in_gateway (Second (Second (Second (Second (Second (Second (Second d)))))))

-- a gain multiplies each sample by the factor in force
abbrev pub gain_filter : FilterMeaning
gain_filter = mapping_filter is_factor amplified

-- a meter tells the energy of each frame
abbrev pub level_filter : FilterMeaning
level_filter = framing_filter SUM_WORDS is_meter frame_level

-- a canceller gives the near end of each pair without the far end's echo
abbrev pub echo_filter : FilterMeaning
echo_filter = stepping_filter two_samples state_words is_canceller cleared

-- a coder gives what its sub-blocks make of each word
abbrev pub adpcm_filter : FilterMeaning
adpcm_filter = recursion_filter adpcm.initial_state adpcm.taken adpcm_words.STATE_WORDS coder_named

-- a generator gives its tones while they sound, and each sample while they don't
abbrev pub signal_filter : FilterMeaning
signal_filter = recursion_filter tones.initial_tones tones.taken signal_words.STATE_WORDS tones.cadence_named

-- a detector tells of each frame whether somebody talks
abbrev pub activity_filter : FilterMeaning
activity_filter = stepping_filter talk.frame_length heard.state_words talk.is_detector talk.activity

-- what each kind means
abbrev pub kind_meaning : Meaning Kind
kind_meaning = meaning_in (λ k. k.kind)
    (either_means voice_meaning (either_means (meaning_of gain_filter) (either_means (meaning_of level_filter)
    (either_means (meaning_of dtmf_filter) (either_means (meaning_of echo_filter) (either_means (meaning_of adpcm_filter)
    (either_means (meaning_of signal_filter) (meaning_of activity_filter))))))))

-- the kinds of one type, at their place in the set
module _ {A : Type 0} (kinds : Meaning Kind) (place : A → Kind) where
  -- each gives out what it gives by its own meaning
  abbrev pub EachGivesAs : Meaning A → Type 0
  EachGivesAs means = (a : A) (p : List ℤ) (h : History) → outputs_of kinds (place a) p h ≡ outputs_of means a p h

  -- each gives by this rule of what the newest sample gives
  abbrev pub EachGivesBy : (List ℤ → History → List ℤ) → Type 0
  EachGivesBy gives = (a : A) → GivesByRule kinds (place a) gives
