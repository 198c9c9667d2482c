use Rattle.std.proofs.Common.{◌≡◌, ◌∙◌, refl, sym, subst}
use Rattle.mem_rec.specs.declared.Space.{Space}
use Rattle.dsp_library.specs.declared.machine.Machine.{Machine}
use Rattle.dsp_library.specs.Calls.{LibraryCallRefines}
use Rattle.dsp_library.proofs.There.{flag_is, same_there}
use Rattle.channel_spec.specs.Calls.Call.{OfHost}
use Rattle.host_spec.specs.Calls.Call.{Step}
use Rattle.dsp_library.proofs.spaces.rokdaum_proved_step.Goals as goal

pub returns-clause-machine : goal.returns-clause-machine
returns-clause-machine c m s opened is numbered =
    let after : Machine = record { channels = c.step-answer.new.self; given = c.deref_mut.result.now.given } in
    let space : c.in-Some.space ≡ s = same_there (sym c.space_by.ensures ∙ c.in-Some.is) numbered in (
      refl,
      record {
        answer = c.step-answer.result;
        after = after;
        told = c.from.ensures ∙ flag_is c.step-answer.result;
        kept = c.put.ensures.machine;
        refines = subst (λ (n : Machine). LibraryCallRefines (OfHost (Step s c.step-answer.result)) n after)
            (c.deref_mut.ensures.value ∙ same_there c.take-machine.ensures.machine is)
            (subst (λ (x : Space). LibraryCallRefines (OfHost (Step x c.step-answer.result)) c.deref_mut.result.now after) space c.step-answer.ensures.machine);
      },
    )
