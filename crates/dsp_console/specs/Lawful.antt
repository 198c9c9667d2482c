-- A run where every kind is lawful: what is served is a function of widths, sizes, script and inputs, in which the poison word doesn't occur.
use Rattle.std.specs.Prelude.{◌≡◌, ℕ, List, Option, None}
use Rattle.ialg.specs.Meaning.{Meaning}
use Rattle.host_map.specs.declared.parts.Sizes.{Sizes}
use Rattle.voice_script.specs.Served.{order_of, refusals}
use Rattle.voice_script.specs.Widths.{Widths}
use Rattle.script_server.specs.Runs.{Devices, EndsByRead, EndsByWrite, EndsWell, Writes, octets_to_come}
use Rattle.console_spec.specs.Console.{start}
use Rattle.console_spec.specs.Answers.{lawful_console, served}

-- between honest ports what is served was written, and nothing else; what the script left on the inputs is still to come
pub record ServesLawfully {M : Type 0} (kinds : Meaning M) (named : List ℕ → Option M) (widths : Widths) (sizes : Sizes) (refused : ℕ) (old new : Devices) : Type 0 where
  pub writes : Writes (order_of (served kinds named widths sizes old.script.coming (octets_to_come old.inputs)).written) old.outputs new.outputs old.replies new.replies
  pub inputs : (served kinds named widths sizes old.script.coming (octets_to_come old.inputs)).run.inputs ≡ octets_to_come new.inputs
  pub counted : refusals (served kinds named widths sizes old.script.coming (octets_to_come old.inputs)).written ≡ refused

-- whatever inputs are honest: the lines that were served are served by the machine that is this function of what the inputs give
module _ {M : Type 0} (kinds : Meaning M) (named : List ℕ → Option M) (widths : Widths) (sizes : Sizes) (old new : Devices) where
  abbrev pub EndsLawfully : ℕ → Type 0
  EndsLawfully refused = EndsWell (lawful_console kinds named widths) (start sizes None (octets_to_come old.inputs)) refused old new

  abbrev pub EndsLawfullyByRead : Type 0
  EndsLawfullyByRead = EndsByRead (lawful_console kinds named widths) (start sizes None (octets_to_come old.inputs)) old new

  abbrev pub EndsLawfullyByWrite : Type 0
  EndsLawfullyByWrite = EndsByWrite (lawful_console kinds named widths) (start sizes None (octets_to_come old.inputs)) old new
