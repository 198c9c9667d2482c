use Rattle.std.proofs.Common.{◌≡◌, ◌∙◌, refl, ap, sym, subst, w32}
use Rattle.std.proofs.Math.Facts.{to_z-of_z}
use Rattle.std.specs.Prelude.{pos, Some, Ok, Err}
use Rattle.host_moves.specs.Refinement.{activity_of}
use Rattle.channel_spec.specs.Calls.Call.{OfHost}
use Rattle.host_spec.specs.Calls.Call.{Stat}
use Rattle.dsp_library.specs.declared.machine.Machine.{Machine}
use Rattle.dsp_library.specs.Codes.{active_code}
use Rattle.dsp_library.specs.Calls.{LibraryCallRefines}
use Rattle.dsp_library.proofs.There.{same_there}
use Rattle.dsp_library.proofs.spaces.rokdaum_proved_stat.Goals as goal

pub returns-in-Some-clause-machine : goal.returns-in-Some-clause-machine
returns-in-Some-clause-machine c m opened is =
    let its : c.take-machine.result.value ≡ m = same_there c.take-machine.ensures.machine is in
    record {
      answer = Ok (activity_of c.in-Ok.stat);
      coded = refl;
      told = (to_z-of_z {w = w32} (record { sfits = c.from.type_inv }) ∙ c.from.ensures ∙ sym (ap active_code c.in-Some.is), refl);
      kept = c.put.ensures.machine ∙ ap Some its;
      refines = subst (λ (n : Machine). LibraryCallRefines (OfHost (Stat c.args.group (Ok (activity_of c.in-Ok.stat)))) n n) (c.deref.ensures ∙ its) c.in-Ok.ensures.machine;
    }

pub returns-in-None-clause-machine : goal.returns-in-None-clause-machine
returns-in-None-clause-machine c m opened is =
    let its : c.take-machine.result.value ≡ m = same_there c.take-machine.ensures.machine is in
    record {
      answer = Ok (activity_of c.in-Ok.stat);
      coded = refl;
      told = (sym (ap active_code c.in-None.is), refl);
      kept = c.put.ensures.machine ∙ ap Some its;
      refines = subst (λ (n : Machine). LibraryCallRefines (OfHost (Stat c.args.group (Ok (activity_of c.in-Ok.stat)))) n n) (c.deref.ensures ∙ its) c.in-Ok.ensures.machine;
    }

pub returns-in-Err-clause-machine : goal.returns-in-Err-clause-machine
returns-in-Err-clause-machine c m opened is =
    let its : c.take-machine.result.value ≡ m = same_there c.take-machine.ensures.machine is in
    record {
      answer = Err c.in-Err.refusal;
      coded = to_z-of_z {w = w32} (record { sfits = c.from-in-Err.type_inv }) ∙ c.from-in-Err.ensures ∙ ap pos c.number.ensures;
      told = tt;
      kept = c.put.ensures.machine ∙ ap Some its;
      refines = subst (λ (n : Machine). LibraryCallRefines (OfHost (Stat c.args.group (Err c.in-Err.refusal))) n n) (c.deref.ensures ∙ its) c.in-Err.ensures.machine;
    }
