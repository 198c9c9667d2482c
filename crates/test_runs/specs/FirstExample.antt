-- What the clause `sounds` alone says of the first example: a filter of one coefficient over two samples.
use Rattle.std.specs.Prelude.{◌≡◌, ℕ, ℤ, pos, List, [], ◌∷◌, Option, None, Result, All, IfOk, slice_index_or}
use Rattle.mem_rec.specs.declared.Space.{Space}
use Rattle.octet_ports.specs.Ports.{Holds}
use Rattle.voice_set.specs.Voices.{voice_meaning, voice_named}
use Rattle.console_spec.specs.Samples.{octets_of}
use Rattle.console_spec.specs.SoundLaws.{rooms_told}
use Rattle.script_server.specs.Runs.{AreReady, Devices, IsHonest, IsReadyIn, no_sink, octets_to_come}
use Rattle.dsp_console.specs.declared.serving.Summary.{Summary}
use Rattle.dsp_console.specs.declared.serving.Fault.{Fault}
use Rattle.dsp_console.specs.Headline.{RunSounds}
use Rattle.test_runs.specs.ConsoleRows.{minus, replies_of, script_of, words}

abbrev pub first_script : List ℕ
first_script = script_of "create 0 fir 0 16384; chain 0 0; feed 0 2"

abbrev pub first_input : List ℕ
first_input = octets_of (pos 1 ∷ minus 1 ∷ [])

abbrev pub first_output : List ℕ
first_output = octets_of (pos 1 ∷ pos 0 ∷ [])

-- no reply tells that room is lacking
abbrev pub had_room : List (Option Space)
had_room = None ∷ None ∷ None ∷ []

-- the example's script and input are to come, of honest ports that haven't failed
pub record CanRunFirst (devices : Devices) : Type 0 where
  pub ready_script : IsReadyIn devices.script
  pub ready : AreReady devices.inputs devices.outputs devices.replies
  pub honest_script : IsHonest devices.script
  pub honest : All IsHonest devices.inputs
  pub script : devices.script.coming ≡ first_script
  pub inputs : octets_to_come devices.inputs ≡ first_input ∷ []

-- where the creation had room, as the replies tell, the output and the replies hold just these octets more, and no line was refused
pub record FirstSounds (poison : Option ℤ) (refused : ℕ) (old new : Devices) : Type 0 where
  pub run : RunSounds voice_meaning voice_named words poison refused old new
  pub output : rooms_told run.answer.written ≡ had_room → Holds first_output (slice_index_or old.outputs 0 no_sink) (slice_index_or new.outputs 0 no_sink)
  pub replies : rooms_told run.answer.written ≡ had_room → Holds (replies_of "ok/ok/ok 2/") old.replies new.replies
  pub refused_none : rooms_told run.answer.written ≡ had_room → refused ≡ 0

-- where the run answers a summary, it is such a run
abbrev pub FirstSoundsLikeIt : Option ℤ → Result Summary Fault → Devices → Devices → Type 0
FirstSoundsLikeIt poison result old new = IfOk result (λ summary. FirstSounds poison summary.refused old new)
