-- A worked row of the headline in which one input alone is honest: what the filter of that input's channel gave, whatever the other one gives.
use Rattle.std.specs.Prelude.{◌≡◌, ◌⊎◌, ℕ, ℤ, pos, Bool, true, List, [], ◌∷◌, ◌++◌, Option, Some, Result, Ok, IfOk, slice_index_or}
use Rattle.ialg.specs.History.{Sample}
use Rattle.octet_ports.specs.Ports.{Holds}
use Rattle.host_spec.specs.Calls.{Call}
use Rattle.host_spec.specs.Calls.Call.{Create, Process}
use Rattle.host_spec.specs.Runs.{history_of_run, outputs_in}
use Rattle.channel_spec.specs.Channels.{Channels}
use Rattle.voice_set.specs.declared.voice.Voice.{Voice}
use Rattle.voice_set.specs.declared.voice.Voice.TheVariants.{Fir}
use Rattle.voice_set.specs.Voices.{voice_meaning, voice_named}
use Rattle.voice_script.specs.Served.{Answer, held_by, order_of}
use Rattle.console_spec.specs.Samples.{octets_of}
use Rattle.script_server.specs.Runs.{AreReady, Devices, IsHonest, IsReadyIn, honest_at, no_sink, octets_to_come}
use Rattle.console_spec.specs.Births.{Born}
use Rattle.console_spec.specs.Headline.{Headline}
use Rattle.dsp_console.specs.declared.serving.Summary.{Summary}
use Rattle.dsp_console.specs.declared.serving.Fault.{Fault}
use Rattle.dsp_console.specs.Headline.{RunHeadline}
use Rattle.test_runs.specs.ConsoleRows.{script_of, words}
use Rattle.test_runs.specs.Row.{mean, row_sizes}

abbrev pub beside_script : List ℕ
beside_script = script_of "create 0 fir 0 16384 16384; create 1 fir 0 16384 16384; chain 0 0; chain 1 1; feed 0 2; feed 1 1; feed 0 1"

-- what is to come of the first input
abbrev pub beside_input : List ℕ
beside_input = octets_of (pos 2 ∷ pos 4 ∷ pos 6 ∷ [])

-- the host's calls from the creation of instance 0 on, in which it gave `one` and `three`, with what instance 1 was given in between
abbrev pub life_beside : (one : List ℤ) (between : List (Call Voice)) (three : List ℤ) → List (Call Voice)
life_beside one between three = Create 1 Fir 0 mean (Ok tt) ∷ Process 0 (pos 2 ∷ pos 4 ∷ []) one ∷ (between ++ Process 0 (pos 6 ∷ []) three ∷ [])

-- the other feed was short, or was given one sample, of which nothing is known
abbrev pub IsGivenAny : List (Call Voice) → Type 0
IsGivenAny between = (between ≡ []) ⊎ ((x : ℤ) × (two : List ℤ) × (between ≡ Process 1 (x ∷ []) two ∷ []))

-- what the headline alone says of instance 0, where input 0 is honest
pub record BesideGave {poison : Option ℤ} {lines inputs : List (List ℕ)} {honest : ℕ → Bool} {answer : Answer (Channels Voice)}
    (says : Headline voice_meaning voice_named words row_sizes poison lines inputs honest answer) : Type 0 where
  pub one : List ℤ
  pub between : List (Call Voice)
  pub three : List ℤ
  pub any : IsGivenAny between
  pub born : Born 0 Fir 0 mean says.asked (life_beside one between three)
  pub given : history_of_run 0 [] (life_beside one between three) ≡ Sample (pos 6) ∷ Sample (pos 4) ∷ Sample (pos 2) ∷ []
  pub gave : outputs_in 0 (life_beside one between three) ≡ pos 1 ∷ pos 3 ∷ pos 5 ∷ []
  pub written : held_by (Some 0) (order_of answer.written) ≡ octets_of (pos 1 ∷ pos 3 ∷ pos 5 ∷ [])

-- the script and the first input are honest, and to come; of the second input nothing is asked but that it hasn't failed
pub record CanRunBeside (devices : Devices) : Type 0 where
  pub ready_script : IsReadyIn devices.script
  pub ready : AreReady devices.inputs devices.outputs devices.replies
  pub honest_script : IsHonest devices.script
  pub honest : honest_at devices.inputs 0 ≡ true
  pub script : devices.script.coming ≡ beside_script
  pub other : List ℕ
  pub inputs : octets_to_come devices.inputs ≡ beside_input ∷ other ∷ []

-- of a run of the row: the headline holds; instance 0 gave that; and the first output holds just its octets more
pub record RanBeside (poison : Option ℤ) (refused : ℕ) (old new : Devices) : Type 0 where
  pub run : RunHeadline voice_meaning voice_named words row_sizes poison refused old new
  pub first : BesideGave run.says
  pub output : Holds (octets_of (pos 1 ∷ pos 3 ∷ pos 5 ∷ [])) (slice_index_or old.outputs 0 no_sink) (slice_index_or new.outputs 0 no_sink)

-- where the run answers a summary, it is such a run
abbrev pub RanBesideIt : Option ℤ → Result Summary Fault → Devices → Devices → Type 0
RanBesideIt poison result old new = IfOk result (λ summary. RanBeside poison summary.refused old new)
