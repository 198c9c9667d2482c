use Rattle.std.proofs.Common.{◌≡◌, ◌∙◌, refl, sym, subst}
use Rattle.mem_rec.specs.declared.Space.{Space}
use Rattle.dsp_library.specs.declared.machine.Machine.{Machine}
use Rattle.dsp_library.specs.Calls.{LibraryCallRefines}
use Rattle.dsp_library.proofs.There.{same_there}
use Rattle.channel_spec.specs.Calls.Call.{OfHost}
use Rattle.host_spec.specs.Calls.Call.{Compact}
use Rattle.dsp_library.proofs.spaces.rokdaum_proved_compact.Goals as goal

pub returns-clause-machine : goal.returns-clause-machine
returns-clause-machine c m s opened is numbered =
    let after : Machine = record { channels = c.compact-answer.new.self; given = c.deref_mut.result.now.given } in
    let space : c.in-Some.space ≡ s = same_there (sym c.space_by.ensures ∙ c.in-Some.is) numbered in (
      refl,
      record {
        after = after;
        kept = c.put.ensures.machine;
        refines = subst (λ (n : Machine). LibraryCallRefines (OfHost (Compact s c.compact-answer.result)) n after)
            (c.deref_mut.ensures.value ∙ same_there c.take-machine.ensures.machine is)
            (subst (λ (x : Space). LibraryCallRefines (OfHost (Compact x c.compact-answer.result)) c.deref_mut.result.now after) space c.compact-answer.ensures.machine);
      },
    )
