-- Where the kinds are lawful, what a run served is what is served.
use Rattle.std.proofs.Common.{◌≡◌, ℕ, ℤ, Bool, true, List, Option, None, All, Result, Ok, Err, IfOk, ap, subst, sym, ◌∙◌}
use Rattle.dsp_console.specs.declared.serving.Summary.{Summary}
use Rattle.dsp_console.specs.declared.serving.Fault.{Fault}
use Rattle.ialg.specs.Meaning.{Meaning}
use Rattle.host_map.specs.declared.parts.Sizes.{Sizes}
use Rattle.host_spec.specs.Answers.{AreLawful}
use Rattle.channel_spec.specs.Channels.{Channels}
use Rattle.voice_script.specs.Script.{lines_of}
use Rattle.voice_script.specs.Served.{Answer, LinesAnswer, order_of, refusals}
use Rattle.voice_script.specs.Computed.{IsComputed}
use Rattle.voice_script.specs.Widths.{Widths}
use Rattle.script_server.specs.Runs.{Devices, EndsByRead, EndsByWrite, EndsWell, IsHonest, Writes, honest_at, octets_to_come}
use Rattle.script_server.proofs.ComputedEnds as computed_ends
use Rattle.script_server.proofs.Honest.{all_honest}
use Rattle.channel_spec.specs.Laws.{with_poison}
use Rattle.console_spec.specs.Console.{console_machine, start}
use Rattle.console_spec.specs.Answers.{computed_console, served}
use Rattle.dsp_console.specs.Lawful.{EndsLawfully, EndsLawfullyByRead, EndsLawfullyByWrite, ServesLawfully}

-- a console of lawful kinds serves one answer
abbrev pub ServesOne : Type 0 → Type 0
ServesOne M = (kinds : Meaning M) (named : List ℕ → Option M) (widths : Widths) (sizes : Sizes) (poison : Option ℤ) (script : List ℕ) (inputs : List (List ℕ)) (honest : ℕ → Bool) (answer : Answer (Channels M))
    → AreLawful kinds poison → ((channel : ℕ) → honest channel ≡ true) → LinesAnswer (console_machine kinds named widths) honest (start sizes poison inputs) (lines_of script) answer
    → (answer.written ≡ (served kinds named widths sizes script inputs).written) × (answer.run.inputs ≡ (served kinds named widths sizes script inputs).run.inputs)

serves_lawfully : {M : Type 0} (kinds : Meaning M) (named : List ℕ → Option M) (widths : Widths) (sizes : Sizes) (poison : Option ℤ) (refused : ℕ) (old new : Devices)
    → ServesOne M → AreLawful kinds poison → IsHonest old.script → All IsHonest old.inputs
    → EndsWell (console_machine kinds named widths) (start sizes poison (octets_to_come old.inputs)) refused old new → ServesLawfully kinds named widths sizes refused old new
serves_lawfully kinds named widths sizes poison refused old new law lawful script inputs ends =
    let all = ends.serves.served script in
    let one = law kinds named widths sizes poison old.script.coming (octets_to_come old.inputs) (honest_at old.inputs) all.answer lawful (all_honest old.inputs inputs) all.is_answer in
    record {
      writes = subst (λ written. Writes (order_of written) old.outputs new.outputs old.replies new.replies) one.0 all.writes;
      inputs = sym one.1 ∙ all.inputs;
      counted = ap refusals (sym one.0) ∙ all.counted;
    }

pub serve_lawfully : {M : Type 0} (kinds : Meaning M) (named : List ℕ → Option M) (widths : Widths) (sizes : Sizes) (poison : Option ℤ) (result : Result Summary Fault) (old new : Devices)
    → ServesOne M → AreLawful kinds poison → IsHonest old.script → All IsHonest old.inputs
    → IfOk result (λ summary. EndsWell (console_machine kinds named widths) (start sizes poison (octets_to_come old.inputs)) summary.refused old new)
    → IfOk result (λ summary. ServesLawfully kinds named widths sizes summary.refused old new)
serve_lawfully kinds named widths sizes poison (Ok summary) old new law lawful script inputs ends = serves_lawfully kinds named widths sizes poison summary.refused old new law lawful script inputs ends
serve_lawfully kinds named widths sizes poison (Err fault) old new law lawful script inputs ends = tt

-- and what it served, whatever inputs are honest, is what that machine serves
module _ {M : Type 0} (kinds : Meaning M) (named : List ℕ → Option M) (widths : Widths) (sizes : Sizes) (poison : Option ℤ) (old new : Devices)
    (is : IsComputed (console_machine kinds named widths) (computed_console kinds named widths) (with_poison poison)) where
  pub lawfully : (result : Result Summary Fault) → IfOk result (λ summary. EndsWell (console_machine kinds named widths) (start sizes poison (octets_to_come old.inputs)) summary.refused old new)
      → IfOk result (λ summary. EndsLawfully kinds named widths sizes old new summary.refused)
  lawfully (Ok summary) ends = computed_ends.well (console_machine kinds named widths) (computed_console kinds named widths) (with_poison poison) is (start sizes None (octets_to_come old.inputs)) summary.refused old new ends
  lawfully (Err fault) ends = tt

  pub lawfully_by_read : EndsByRead (console_machine kinds named widths) (start sizes poison (octets_to_come old.inputs)) old new → EndsLawfullyByRead kinds named widths sizes old new
  lawfully_by_read = computed_ends.by_read (console_machine kinds named widths) (computed_console kinds named widths) (with_poison poison) is (start sizes None (octets_to_come old.inputs)) old new

  pub lawfully_by_write : EndsByWrite (console_machine kinds named widths) (start sizes poison (octets_to_come old.inputs)) old new → EndsLawfullyByWrite kinds named widths sizes old new
  lawfully_by_write = computed_ends.by_write (console_machine kinds named widths) (computed_console kinds named widths) (with_poison poison) is (start sizes None (octets_to_come old.inputs)) old new
