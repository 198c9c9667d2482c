use Rattle.std.proofs.Common.{◌≡◌, ◌∙◌, sym, subst, w32, List, ℤ}
use Rattle.std.proofs.Math.Facts.{to_z-of_z}
use Rattle.dsp_library.specs.declared.machine.Machine.{Machine}
use Rattle.dsp_library.specs.Calls.{LibraryCallRefines}
use Rattle.dsp_library.proofs.Served.{full_stays}
use Rattle.dsp_library.proofs.There.{same_there}
use Rattle.gateway_kinds.specs.Kinds.{Kind}
use Rattle.channel_spec.specs.Calls.Call.{OfHost}
use Rattle.host_spec.specs.Calls.Call.{Create}
use Rattle.dsp_library.proofs.calls.rokdaum_proved_create.Goals as goal

pub returns-clause-machine : goal.returns-clause-machine
returns-clause-machine c m k opened is numbered fits =
    let after : Machine = record { channels = c.create-answer.new.self; given = c.deref_mut.result.now.given } in
    let kind : c.in-Some.kind ≡ k = same_there (sym c.kind_by.ensures ∙ c.in-Some.is) numbered in
    record {
      answer = c.create-answer.result;
      after = after;
      coded = to_z-of_z {w = w32} (record { sfits = c.code.type_inv }) ∙ c.code.ensures;
      told = c.tell_space.ensures;
      kept = c.put.ensures.machine;
      refines = subst (λ (n : Machine). LibraryCallRefines (OfHost (Create c.args.i k c.args.group c.args.parameters.now c.create-answer.result)) n after)
          (c.deref_mut.ensures.value ∙ same_there c.take-machine.ensures.machine is)
          (subst (λ (x : Kind × List ℤ). LibraryCallRefines (OfHost (Create c.args.i x.0 c.args.group x.1 c.create-answer.result)) c.deref_mut.result.now after)
          (λ j. (kind j, c.copied-parameters.ensures j)) c.create-answer.ensures.machine);
    }

pub returns-clause-refused : goal.returns-clause-refused
returns-clause-refused c apart =
    c.tell_space.ensures ∙ full_stays c.create-answer.result c.args.full.now (λ same. apart (to_z-of_z {w = w32} (record { sfits = c.code.type_inv }) ∙ c.code.ensures ∙ same))
