use Rattle.std.proofs.Common.{◌∙◌, subst, w32, List, ℤ}
use Rattle.std.proofs.Math.Facts.{to_z-of_z}
use Rattle.dsp_library.specs.declared.machine.Machine.{Machine}
use Rattle.dsp_library.specs.Calls.{LibraryCallRefines}
use Rattle.dsp_library.proofs.There.{same_there}
use Rattle.ialg.specs.History.Ctl.{Set}
use Rattle.host_moves.specs.Refinement.{told}
use Rattle.channel_spec.specs.Calls.Call.{OfHost}
use Rattle.host_spec.specs.Calls.Call.{Control}
use Rattle.dsp_library.proofs.Served.{answered, code_told}
use Rattle.dsp_library.proofs.controls.rokdaum_proved_set.Goals as goal

pub returns-clause-machine : goal.returns-clause-machine
returns-clause-machine c m opened is fits =
    let after : Machine = record { channels = c.control-answer.new.self; given = c.deref_mut.result.now.given } in
    answered (λ answer. OfHost (Control c.args.i (Set c.args.words.now) answer)) (told c.control-answer.result) c.control-answer.new.self
    (c.deref_mut.ensures.value ∙ same_there c.take-machine.ensures.machine is)
    (to_z-of_z {w = w32} (record { sfits = c.code.type_inv }) ∙ c.code.ensures ∙ code_told c.control-answer.result) c.put.ensures.machine
    (subst (λ (ws : List ℤ). LibraryCallRefines (OfHost (Control c.args.i (Set ws) (told c.control-answer.result))) c.deref_mut.result.now after) c.copied.ensures c.control-answer.ensures.machine)
