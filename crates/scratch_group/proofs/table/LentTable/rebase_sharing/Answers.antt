use Rattle.record_loans.specs.Pieces.{only_third}
use Rattle.scratch_group.specs.Words.{record_place}
use Rattle.scratch_group.proofs.LoansStay.{loan_stays}
use Rattle.scratch_group.proofs.table.LentTable.rebase_sharing.Goals as goal

pub invariant_of-self : goal.invariant_of-self
invariant_of-self c =
    let rs = c.self.inside.table in
    loan_stays rs _ (record_place rs c.args.own.now (only_third c.args.once.now) c.args.group.now) c.self.inside.loan c.rebase_sharing.ensures c.self.invariant
