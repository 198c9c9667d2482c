-- The headline, of a run of the engine whose script is honest.
use Rattle.std.specs.Prelude.{ℕ, ℤ, List, Option}
use Rattle.ialg.specs.Meaning.{Meaning}
use Rattle.host_map.specs.declared.parts.Sizes.{Sizes}
use Rattle.voice_script.specs.Script.{lines_of}
use Rattle.voice_script.specs.Widths.{Widths}
use Rattle.script_server.specs.Runs.{Devices, ServedAll, honest_at, octets_to_come}
use Rattle.console_spec.specs.Console.{console_machine, start}
use Rattle.console_spec.specs.Headline.{Headline}
use Rattle.console_spec.specs.Sounds.{silence, sound_machine}

-- over ports of these widths, from a host of these sizes and this poison word, all of the script was served, by an answer that the machine
-- may give: the ports hold what it says, the inputs have what it left, and so many lines were refused. And of that answer the headline holds
pub record RunHeadline {M : Type 0} (kinds : Meaning M) (named : List ℕ → Option M) (widths : Widths) (sizes : Sizes) (poison : Option ℤ) (refused : ℕ) (old new : Devices) : Type 0 where
  pub serves : ServedAll (console_machine kinds named widths) (start sizes poison (octets_to_come old.inputs)) refused old new
  pub says : Headline kinds named widths sizes poison (lines_of old.script.coming) (octets_to_come old.inputs) (honest_at old.inputs) serves.answer

-- the sounds of that run: a console without memory may serve it. Which creations find room, and what is told of memory, is left open
abbrev pub RunSounds : {M : Type 0} → Meaning M → (List ℕ → Option M) → Widths → Option ℤ → (refused : ℕ) → (old new : Devices) → Type 0
RunSounds kinds named widths poison refused old new = ServedAll (sound_machine kinds poison named widths) (silence (octets_to_come old.inputs)) refused old new
