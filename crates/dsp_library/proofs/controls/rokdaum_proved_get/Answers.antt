use Rattle.std.proofs.Common.{◌≡◌, ◌∙◌, subst, w32}
use Rattle.std.proofs.Math.Facts.{to_z-of_z}
use Rattle.std.specs.Prelude.{length, take, drop}
use Rattle.dsp_library.specs.declared.machine.Machine.{Machine}
use Rattle.dsp_library.specs.Calls.{LibraryCallRefines}
use Rattle.dsp_library.proofs.There.{same_there}
use Rattle.ialg.specs.History.Ctl.{Get}
use Rattle.host_moves.specs.Refinement.{told}
use Rattle.channel_spec.specs.Calls.Call.{OfHost}
use Rattle.host_spec.specs.Calls.Call.{Control}
use Rattle.dsp_library.specs.Calls.{words_told}
use Rattle.dsp_library.proofs.Served.{code_told, ok_told}
use Rattle.dsp_library.proofs.controls.rokdaum_proved_get.Goals as goal

pub returns-clause-machine : goal.returns-clause-machine
returns-clause-machine c m opened is fits =
    let after : Machine = record { channels = c.control-answer.new.self; given = c.deref_mut.result.now.given } in
    record {
      answer = told c.control-answer.result;
      after = after;
      coded = to_z-of_z {w = w32} (record { sfits = c.tell_words.type_inv }) ∙ c.tell_words.ensures.code ∙ code_told c.control-answer.result;
      kept = c.put.ensures.machine;
      refines = subst (λ (n : Machine). LibraryCallRefines (OfHost (Control c.args.i Get (told c.control-answer.result))) n after) (c.deref_mut.ensures.value ∙ same_there c.take-machine.ensures.machine is) c.control-answer.ensures.machine;
      told = ok_told (λ status. (c.tell_words.new.count ≡ length (words_told status)) × (take (length (words_told status)) c.tell_words.new.words ≡ words_told status)
          × (drop (length (words_told status)) c.tell_words.new.words ≡ drop (length (words_told status)) c.args.words.now)) c.control-answer.result c.tell_words.ensures.told;
    }
