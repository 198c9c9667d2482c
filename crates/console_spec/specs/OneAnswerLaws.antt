-- What the laws say of what is served where kinds are lawful, or where an input is honest.
use Rattle.std.specs.Prelude.{◌≡◌, ◌≤◌, ◌<◌, ℕ, ℤ, Bool, true, List, Option, length, take}
use Rattle.ialg.specs.Meaning.{Meaning}
use Rattle.ialg.specs.declared.refusal.Refusal.TheVariants.{Short}
use Rattle.host_map.specs.declared.parts.Sizes.{Sizes}
use Rattle.host_spec.specs.Answers.{AreLawful}
use Rattle.channel_spec.specs.Channels.{Channels}
use Rattle.channel_spec.specs.Laws.{with_poison}
use Rattle.voice_script.specs.Script.{lines_of}
use Rattle.voice_script.specs.Served.{Answer, FedAnswer, FeedAnswer, LinesAnswer, Run, refuses}
use Rattle.voice_script.specs.Computed.{IsComputed, after_reading, octets_left}
use Rattle.voice_script.specs.Widths.{Widths}
use Rattle.console_spec.specs.Console.{console_machine, start}
use Rattle.console_spec.specs.Answers.{computed_console, served, lines_served}

-- ---- where the kinds are lawful

-- what a line asks, gives and tells is computed, and the poison word tells nothing
abbrev pub LinesAreComputed : Type 0 → Type 0
LinesAreComputed M =
    (kinds : Meaning M) (named : List ℕ → Option M) (widths : Widths) (poison : Option ℤ) → AreLawful kinds poison
    → IsComputed (console_machine kinds named widths) (computed_console kinds named widths) (with_poison poison)

-- where all inputs are honest, a list of lines has one answer, and leaves one rest of the inputs
abbrev pub LinesServeOneAnswer : Type 0 → Type 0
LinesServeOneAnswer M =
    (kinds : Meaning M) (named : List ℕ → Option M) (widths : Widths) (sizes : Sizes) (poison : Option ℤ) (lines inputs : List (List ℕ)) (honest : ℕ → Bool) (answer : Answer (Channels M))
    → AreLawful kinds poison → ((channel : ℕ) → honest channel ≡ true)
    → LinesAnswer (console_machine kinds named widths) honest (start sizes poison inputs) lines answer
    → (answer.written ≡ (lines_served kinds named widths sizes lines inputs).written)
    × (answer.run.inputs ≡ (lines_served kinds named widths sizes lines inputs).run.inputs)

-- and so has a script
abbrev pub ScriptsServeOneAnswer : Type 0 → Type 0
ScriptsServeOneAnswer M =
    (kinds : Meaning M) (named : List ℕ → Option M) (widths : Widths) (sizes : Sizes) (poison : Option ℤ) (script : List ℕ) (inputs : List (List ℕ)) (honest : ℕ → Bool) (answer : Answer (Channels M))
    → AreLawful kinds poison → ((channel : ℕ) → honest channel ≡ true)
    → LinesAnswer (console_machine kinds named widths) honest (start sizes poison inputs) (lines_of script) answer
    → (answer.written ≡ (served kinds named widths sizes script inputs).written)
    × (answer.run.inputs ≡ (served kinds named widths sizes script inputs).run.inputs)

-- ---- where a feed's own input is honest

-- where fewer octets are left than it asks for it is refused as short, and nothing is left
abbrev pub ShortFeedsAreRefused : Type 0 → Type 0
ShortFeedsAreRefused M =
    (kinds : Meaning M) (named : List ℕ → Option M) (widths : Widths) (honest : ℕ → Bool) (run : Run (Channels M)) (channel count : ℕ) (answer : Answer (Channels M))
    → honest channel ≡ true → FeedAnswer (console_machine kinds named widths) honest run channel count answer
    → length (octets_left run channel) < count → answer ≡ refuses (after_reading run channel count) Short

-- else the channel takes the first octets that are left, and the others are left
abbrev pub WholeFeedsTakeTheFirst : Type 0 → Type 0
WholeFeedsTakeTheFirst M =
    (kinds : Meaning M) (named : List ℕ → Option M) (widths : Widths) (honest : ℕ → Bool) (run : Run (Channels M)) (channel count : ℕ) (answer : Answer (Channels M))
    → honest channel ≡ true → FeedAnswer (console_machine kinds named widths) honest run channel count answer
    → count ≤ length (octets_left run channel)
    → FedAnswer (console_machine kinds named widths) (after_reading run channel count) channel (take count (octets_left run channel)) answer
