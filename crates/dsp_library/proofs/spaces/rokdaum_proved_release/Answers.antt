use Rattle.std.proofs.Common.{◌∙◌, refl, subst, ap, w32}
use Rattle.std.proofs.Math.Facts.{to_z-of_z}
use Rattle.std.specs.Prelude.{pos, Ok, Err}
use Rattle.dsp_library.specs.declared.machine.Machine.{Machine}
use Rattle.dsp_library.specs.Calls.{LibraryCallRefines}
use Rattle.dsp_library.proofs.There.{flag_is, same_there}
use Rattle.channel_spec.specs.Calls.Call.{OfHost}
use Rattle.host_spec.specs.Calls.Call.{Release}
use Rattle.dsp_library.proofs.spaces.rokdaum_proved_release.Goals as goal

pub returns-in-Ok-clause-machine : goal.returns-in-Ok-clause-machine
returns-in-Ok-clause-machine c m opened is =
    let after : Machine = record { channels = c.release-answer.new.self; given = c.deref_mut.result.now.given } in
    record {
      answer = Ok c.in-Ok.was_active;
      after = after;
      coded = refl;
      told = c.from.ensures ∙ flag_is c.in-Ok.was_active;
      kept = c.put.ensures.machine;
      refines = subst (λ (n : Machine). LibraryCallRefines (OfHost (Release c.args.group (Ok c.in-Ok.was_active))) n after)
          (c.deref_mut.ensures.value ∙ same_there c.take-machine.ensures.machine is)
          c.in-Ok.ensures.machine;
    }

pub returns-in-Err-clause-machine : goal.returns-in-Err-clause-machine
returns-in-Err-clause-machine c m opened is =
    let after : Machine = record { channels = c.release-answer.new.self; given = c.deref_mut.result.now.given } in
    record {
      answer = Err c.in-Err.refusal;
      after = after;
      coded = to_z-of_z {w = w32} (record { sfits = c.from-in-Err.type_inv }) ∙ c.from-in-Err.ensures ∙ ap pos c.number.ensures;
      told = tt;
      kept = c.put.ensures.machine;
      refines = subst (λ (n : Machine). LibraryCallRefines (OfHost (Release c.args.group (Err c.in-Err.refusal))) n after)
          (c.deref_mut.ensures.value ∙ same_there c.take-machine.ensures.machine is)
          c.in-Err.ensures.machine;
    }
