use Rattle.std.proofs.Common.{◌∙◌, subst, w32}
use Rattle.std.proofs.Math.Facts.{to_z-of_z}
use Rattle.dsp_library.specs.declared.machine.Machine.{Machine}
use Rattle.dsp_library.specs.Calls.{LibraryCallRefines}
use Rattle.dsp_library.proofs.There.{same_there}
use Rattle.channel_spec.specs.Calls.Call.{Unchain}
use Rattle.dsp_library.proofs.calls.rokdaum_proved_unchain.Goals as goal

pub returns-clause-machine : goal.returns-clause-machine
returns-clause-machine c m opened is =
    let after : Machine = record { channels = c.unchain-answer.new.self; given = c.deref_mut.result.now.given } in
    record {
      answer = c.unchain-answer.result;
      after = after;
      coded = to_z-of_z {w = w32} (record { sfits = c.code.type_inv }) ∙ c.code.ensures;
      kept = c.put.ensures.machine;
      refines = subst (λ (n : Machine). LibraryCallRefines (Unchain c.args.channel c.unchain-answer.result) n after)
          (c.deref_mut.ensures.value ∙ same_there c.take-machine.ensures.machine is)
          c.unchain-answer.ensures.machine;
    }
