use Rattle.std.proofs.Common.{length, lit<, sym, ap, ◌∙◌}
use Rattle.ialg.proofs.Tables.{object_attr}
use Rattle.ialg.proofs.Taking.{persist_not_once}
use Rattle.ialg.proofs.Loans.{taken_and_put}
use Rattle.ialg.proofs.memory.Lent.name_records.Goals as goal

pub returns-clause-loans : goal.returns-clause-loans
returns-clause-loans c =
    let taken = c.take_object-object.ensures in
    let back = c.put.ensures.back in
    taken_and_put 0 _ _ _ (lit< tt) taken.left c.put.ensures.others
    (λ once. persist_not_once (sym (object_attr c.args.self.now.table.now c.records-records.ensures.table) ∙ once))
    (ap (λ r. r.ghost_name) back ∙ ap (λ r. r.ghost_name) taken.value)
    (ap (λ r. length r.now) back ∙ c.write_object.auto.object ∙ ap (λ r. length r.now) taken.value)
