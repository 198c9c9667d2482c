-- What a run of the engine answers, told this configuration.
use Rattle.std.specs.Prelude.{◌≡◌, ◌+◌, ◌⊎◌, true, ℕ, All, IfOk, IsErrOf, List, Option, Result}
use Rattle.ialg.specs.Meaning.{Meaning}
use Rattle.octet_ports.specs.Ports.{GivesWithin, Source}
use Rattle.host_spec.specs.Answers.{AreLawful}
use Rattle.voice_script.specs.Widths.{widths_of}
use Rattle.script_server.specs.declared.limits.TheConstants.{SCRIPT_OCTETS}
use Rattle.script_server.specs.Runs.{Devices, EndsByRead, EndsByWrite, EndsWell, IsHonest, octets_to_come}
use Rattle.console_spec.specs.Console.{console_machine, start}
use Rattle.dsp_console.specs.declared.serving.Config.{Config}
use Rattle.dsp_console.specs.declared.serving.Summary.{Summary}
use Rattle.dsp_console.specs.declared.serving.Fault.{Fault}
use Rattle.dsp_console.specs.declared.serving.Fault.TheVariants.{Size, Memory, Read, Write}
use Rattle.dsp_console.specs.Headline.{RunHeadline, RunSounds}
use Rattle.dsp_console.specs.Lawful.{EndsLawfully, EndsLawfullyByRead, EndsLawfullyByWrite, ServesLawfully}

-- a size is wrong, or memory was refused: no device was used
abbrev pub IsNotBegun : Result Summary Fault → Type 0
IsNotBegun result = IsErrOf result Size ⊎ IsErrOf result Memory

-- of an honest script at most one octet more than the limit was read
abbrev pub ReadsWithinLimit : {S : Type 0} → (S → Source) → S → S → Type 0
ReadsWithinLimit source old new = GivesWithin (SCRIPT_OCTETS + 1) (source old) (source new)

module _ {M : Type 0} (kinds : Meaning M) (named : List ℕ → Option M) (config : Config) (result : Result Summary Fault) (old new : Devices) where
  -- where it answers a summary, the headline holds
  abbrev pub HasHeadline : Type 0
  HasHeadline = old.script.honest ≡ true → IfOk result (λ summary. RunHeadline kinds named (widths_of config.in8 config.out8) config.sizes config.poison summary.refused old new)

  -- and its sounds
  abbrev pub HasSounds : Type 0
  HasSounds = IsHonest old.script → IfOk result (λ summary. RunSounds kinds named (widths_of config.in8 config.out8) config.poison summary.refused old new)

  -- all was served, and passed on
  abbrev pub RunEndsWell : Type 0
  RunEndsWell = IfOk result (λ summary. EndsWell (console_machine kinds named (widths_of config.in8 config.out8)) (start config.sizes config.poison (octets_to_come old.inputs)) summary.refused old new)

  -- where a script or an input failed, exactly some lines were served
  abbrev pub RunEndsByRead : Type 0
  RunEndsByRead = IsErrOf result Read → EndsByRead (console_machine kinds named (widths_of config.in8 config.out8)) (start config.sizes config.poison (octets_to_come old.inputs)) old new

  -- where an output or the replies failed, the first lines were served
  abbrev pub RunEndsByWrite : Type 0
  RunEndsByWrite = IsErrOf result Write → EndsByWrite (console_machine kinds named (widths_of config.in8 config.out8)) (start config.sizes config.poison (octets_to_come old.inputs)) old new

  -- where every kind is lawful and every input honest, what is served is a function of widths, sizes, script and inputs
  abbrev pub RunServesLawfully : Type 0
  RunServesLawfully = AreLawful kinds config.poison → IsHonest old.script → All IsHonest old.inputs
      → IfOk result (λ summary. ServesLawfully kinds named (widths_of config.in8 config.out8) config.sizes summary.refused old new)

  -- where every kind is lawful, all was served by the function, and passed on
  abbrev pub RunEndsLawfully : Type 0
  RunEndsLawfully = AreLawful kinds config.poison → IfOk result (λ summary. EndsLawfully kinds named (widths_of config.in8 config.out8) config.sizes old new summary.refused)

  -- exactly some lines were served by it
  abbrev pub RunEndsLawfullyByRead : Type 0
  RunEndsLawfullyByRead = AreLawful kinds config.poison → IsErrOf result Read → EndsLawfullyByRead kinds named (widths_of config.in8 config.out8) config.sizes old new

  -- the first lines were served by it
  abbrev pub RunEndsLawfullyByWrite : Type 0
  RunEndsLawfullyByWrite = AreLawful kinds config.poison → IsErrOf result Write → EndsLawfullyByWrite kinds named (widths_of config.in8 config.out8) config.sizes old new
