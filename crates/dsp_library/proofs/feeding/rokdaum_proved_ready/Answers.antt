use Rattle.std.proofs.Common.{◌≡◌, ◌∙◌, ap, subst, w32}
use Rattle.std.proofs.Math.Facts.{to_z-of_z}
use Rattle.std.specs.Prelude.{Some}
use Rattle.channel_spec.specs.Calls.Call.{Ready}
use Rattle.dsp_library.specs.declared.machine.Machine.{Machine}
use Rattle.dsp_library.specs.Calls.{LibraryCallRefines}
use Rattle.dsp_library.proofs.There.{same_there}
use Rattle.dsp_library.proofs.feeding.rokdaum_proved_ready.Goals as goal

pub returns-clause-machine : goal.returns-clause-machine
returns-clause-machine c m opened is =
    let its : c.take-machine.result.value ≡ m = same_there c.take-machine.ensures.machine is in
    record {
      answer = c.ready-answer.result;
      after = m;
      coded = to_z-of_z {w = w32} (record { sfits = c.code.type_inv }) ∙ c.code.ensures;
      kept = c.put.ensures.machine ∙ ap Some its;
      refines = subst (λ (n : Machine). LibraryCallRefines (Ready c.args.channel c.ready-answer.result) n n) (c.deref.ensures ∙ its) c.ready-answer.ensures.machine;
    }
