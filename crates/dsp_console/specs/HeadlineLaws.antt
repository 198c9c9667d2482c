-- What the laws of the headline say of runs of the engine.
use Rattle.std.specs.Prelude.{◌≡◌, ◌++◌, ℕ, ℤ, List, Option}
use Rattle.ialg.specs.Meaning.{Meaning}
use Rattle.host_map.specs.declared.parts.Sizes.{Sizes}
use Rattle.voice_script.specs.Script.{lines_of}
use Rattle.voice_script.specs.Widths.{Widths}
use Rattle.console_spec.specs.Console.{console_machine, start}
use Rattle.console_spec.specs.Headline.{GoesOn, Headline}
use Rattle.script_server.specs.Runs.{Devices, EndsByRead, EndsWell, IsHonest, honest_at, octets_to_come}
use Rattle.dsp_console.specs.Headline.{RunHeadline, RunSounds}

module _ {M : Type 0} (kinds : Meaning M) (named : List ℕ → Option M) where
  -- a run that ends well has the headline, where its script is honest
  abbrev pub WellEndedHaveTheHeadline : Type 0
  WellEndedHaveTheHeadline =
      (widths : Widths) (sizes : Sizes) (poison : Option ℤ) (refused : ℕ) (old new : Devices) → IsHonest old.script
      → EndsWell (console_machine kinds named widths) (start sizes poison (octets_to_come old.inputs)) refused old new
      → RunHeadline kinds named widths sizes poison refused old new

  -- where a script or an input failed, the lines that were served have it
  abbrev pub StoppedHaveTheHeadline : Type 0
  StoppedHaveTheHeadline =
      (widths : Widths) (sizes : Sizes) (poison : Option ℤ) (old new : Devices)
      (ends : EndsByRead (console_machine kinds named widths) (start sizes poison (octets_to_come old.inputs)) old new)
      → Headline kinds named widths sizes poison ends.served.lines (octets_to_come old.inputs) (honest_at old.inputs) ends.served.answer

  -- a run that has the headline has its sounds
  abbrev pub RunsHaveTheirSounds : Type 0
  RunsHaveTheirSounds =
      (widths : Widths) (sizes : Sizes) (poison : Option ℤ) (refused : ℕ) (old new : Devices)
      → RunHeadline kinds named widths sizes poison refused old new → RunSounds kinds named widths poison refused old new

  -- and the first lines of its script have it by themselves
  abbrev pub FirstLinesOfRunsHaveIt : Type 0
  FirstLinesOfRunsHaveIt =
      (widths : Widths) (sizes : Sizes) (poison : Option ℤ) (refused : ℕ) (old new : Devices) (run : RunHeadline kinds named widths sizes poison refused old new)
      (first more : List (List ℕ)) → lines_of old.script.coming ≡ first ++ more
      → GoesOn kinds named widths sizes poison first more (octets_to_come old.inputs) (honest_at old.inputs) run.serves.answer
