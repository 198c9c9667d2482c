use Rattle.std.proofs.Common.{FitsSigned, w16}
use Rattle.std.proofs.lemmas.Int.{to_z-of_z}
use Rattle.ialg.proofs.hosted.write_object_of.Goals as goal

pub returns-clause-names : goal.returns-clause-names
returns-clause-names g c long =
    let kind : FitsSigned w16 c.KIND.result = record { sfits = c.KIND.type_inv } in
    rw (to_z-of_z w16 c.KIND.result kind, c.KIND.ensures) at (c.name_records.ensures.names long)
