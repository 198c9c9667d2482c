-- A worked row of the headline: a script of a few lines, and what its first filter gave.
use Rattle.std.specs.Prelude.{◌≡◌, ℕ, ℤ, pos, Bool, List, [], ◌∷◌, Option, Some, Result, Ok, All, IfOk, slice_index_or}
use Rattle.mem_rec.specs.declared.Space.TheVariants.{Daram}
use Rattle.ialg.specs.History.{Sample}
use Rattle.octet_ports.specs.Ports.{Holds}
use Rattle.host_map.specs.declared.parts.Sizes.{Sizes}
use Rattle.host_spec.specs.Calls.{Call}
use Rattle.host_spec.specs.Calls.Call.{Create, Process, Delete, Compact}
use Rattle.host_spec.specs.Runs.{history_of_run, outputs_in}
use Rattle.channel_spec.specs.Channels.{Channels}
use Rattle.voice_set.specs.declared.voice.Voice.{Voice}
use Rattle.voice_set.specs.declared.voice.Voice.TheVariants.{Fir}
use Rattle.voice_set.specs.Voices.{voice_meaning, voice_named}
use Rattle.voice_script.specs.Served.{Answer, held_by, order_of}
use Rattle.console_spec.specs.Samples.{octets_of}
use Rattle.script_server.specs.Runs.{AreReady, Devices, IsHonest, IsReadyIn, no_sink, octets_to_come}
use Rattle.console_spec.specs.Births.{Born}
use Rattle.console_spec.specs.Lines.{fed_out}
use Rattle.console_spec.specs.Headline.{Headline}
use Rattle.dsp_console.specs.declared.serving.Summary.{Summary}
use Rattle.dsp_console.specs.declared.serving.Fault.{Fault}
use Rattle.dsp_console.specs.Headline.{RunHeadline}
use Rattle.test_runs.specs.ConsoleRows.{script_of, words}

abbrev pub row_script : List ℕ
row_script = script_of "create 2 fir 1 16384 16384; create 0 fir 0 16384 16384; create 1 fir 0 16384 16384; chain 0 0; chain 1 1; feed 0 2; feed 1 1; delete 2; compact daram; feed 0 1; unchain 0; delete 0"

abbrev pub row_inputs : List (List ℕ)
row_inputs = octets_of (pos 2 ∷ pos 4 ∷ pos 6 ∷ []) ∷ octets_of (pos 10 ∷ []) ∷ []

abbrev pub row_sizes : Sizes
row_sizes = record { daram = 4096; saram = 16; external = 16 }

-- the mean of a sample and the one before it
abbrev pub mean : List ℤ
mean = pos 16384 ∷ pos 16384 ∷ []

-- the host's calls between the creation of instance 0 and its deletion, in which it gave `one` and `three`, and instance 1 gave `two`. A
-- compaction moved one block, the scratch of both
abbrev pub life : (one two three : List ℤ) → List (Call Voice)
life one two three =
    Create 1 Fir 0 mean (Ok tt) ∷ Process 0 (pos 2 ∷ pos 4 ∷ []) one ∷ Process 1 (pos 10 ∷ []) two ∷ Delete 2 (Ok tt) ∷ Compact Daram 1
    ∷ Process 0 (pos 6 ∷ []) three ∷ []

-- what the headline alone says of instance 0, which is deleted before the run ends
pub record FirstGave {poison : Option ℤ} {lines inputs : List (List ℕ)} {honest : ℕ → Bool} {answer : Answer (Channels Voice)}
    (says : Headline voice_meaning voice_named words row_sizes poison lines inputs honest answer) : Type 0 where
  pub one : List ℤ
  pub two : List ℤ
  pub three : List ℤ
  pub born : Born 0 Fir 0 mean says.asked (life one two three)
  pub rest : born.rest ≡ Delete 0 (Ok tt) ∷ []
  pub given : history_of_run 0 [] (life one two three) ≡ Sample (pos 6) ∷ Sample (pos 4) ∷ Sample (pos 2) ∷ []
  pub gave : outputs_in 0 (life one two three) ≡ pos 1 ∷ pos 3 ∷ pos 5 ∷ []
  -- it is all that channel 0 gave, and what was written on its output
  pub fed : fed_out 0 says.calls ≡ pos 1 ∷ pos 3 ∷ pos 5 ∷ []
  pub written : held_by (Some 0) (order_of answer.written) ≡ octets_of (pos 1 ∷ pos 3 ∷ pos 5 ∷ [])

-- the row's script and inputs are to come, of honest ports that haven't failed
pub record CanRunRow (devices : Devices) : Type 0 where
  pub ready_script : IsReadyIn devices.script
  pub ready : AreReady devices.inputs devices.outputs devices.replies
  pub honest_script : IsHonest devices.script
  pub honest : All IsHonest devices.inputs
  pub script : devices.script.coming ≡ row_script
  pub inputs : octets_to_come devices.inputs ≡ row_inputs

-- of a run of the row: the headline holds; instance 0 gave that; and the first output holds just its octets more
pub record RowGave (poison : Option ℤ) (refused : ℕ) (old new : Devices) : Type 0 where
  pub run : RunHeadline voice_meaning voice_named words row_sizes poison refused old new
  pub first : FirstGave run.says
  pub output : Holds (octets_of (pos 1 ∷ pos 3 ∷ pos 5 ∷ [])) (slice_index_or old.outputs 0 no_sink) (slice_index_or new.outputs 0 no_sink)

-- where the run answers a summary, the row gave that
abbrev pub RowGaveIt : Option ℤ → Result Summary Fault → Devices → Devices → Type 0
RowGaveIt poison result old new = IfOk result (λ summary. RowGave poison summary.refused old new)
