-- The headline of a run that ended well, and its sounds.
use Rattle.std.proofs.Common.{ℕ, ℤ, List, Option, Result, Ok, Err, IfOk}
use Rattle.dsp_console.specs.declared.serving.Summary.{Summary}
use Rattle.dsp_console.specs.declared.serving.Fault.{Fault}
use Rattle.ialg.specs.Meaning.{Meaning}
use Rattle.host_map.specs.declared.parts.Sizes.{Sizes}
use Rattle.script_server.specs.Runs.{Devices, EndsWell, IsHonest, octets_to_come}
use Rattle.voice_script.specs.Widths.{Widths}
use Rattle.console_spec.specs.Console.{console_machine, start}
use Rattle.dsp_console.specs.Headline.{RunHeadline, RunSounds}

pub says_headline : {M : Type 0} (kinds : Meaning M) (named : List ℕ → Option M) (widths : Widths) (sizes : Sizes) (poison : Option ℤ) (result : Result Summary Fault) (old new : Devices)
    → ((refused : ℕ) (old new : Devices) → IsHonest old.script
    → EndsWell (console_machine kinds named widths) (start sizes poison (octets_to_come old.inputs)) refused old new → RunHeadline kinds named widths sizes poison refused old new)
    → IsHonest old.script
    → IfOk result (λ summary. EndsWell (console_machine kinds named widths) (start sizes poison (octets_to_come old.inputs)) summary.refused old new)
    → IfOk result (λ summary. RunHeadline kinds named widths sizes poison summary.refused old new)
says_headline kinds named widths sizes poison (Ok summary) old new law script ends = law summary.refused old new script ends
says_headline kinds named widths sizes poison (Err fault) old new law script ends = tt

pub says_sounds : {M : Type 0} (kinds : Meaning M) (named : List ℕ → Option M) (widths : Widths) (sizes : Sizes) (poison : Option ℤ) (result : Result Summary Fault) (old new : Devices)
    → ((refused : ℕ) (old new : Devices) → RunHeadline kinds named widths sizes poison refused old new → RunSounds kinds named widths poison refused old new)
    → IfOk result (λ summary. RunHeadline kinds named widths sizes poison summary.refused old new)
    → IfOk result (λ summary. RunSounds kinds named widths poison summary.refused old new)
says_sounds kinds named widths sizes poison (Ok summary) old new law says = law summary.refused old new says
says_sounds kinds named widths sizes poison (Err fault) old new law says = tt
