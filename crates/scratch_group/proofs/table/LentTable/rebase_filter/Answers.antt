use Rattle.record_loans.specs.Pieces.{no_pieces}
use Rattle.scratch_group.specs.Words.{record_place}
use Rattle.scratch_group.proofs.LoansStay.{loan_stays}
use Rattle.scratch_group.proofs.table.LentTable.rebase_filter.Goals as goal

pub invariant_of-self : goal.invariant_of-self
invariant_of-self c =
    let rs = c.self.inside.table in
    loan_stays rs _ (record_place rs c.args.own.now no_pieces c.args.group.now) c.self.inside.loan c.rebase_filter.ensures c.self.invariant
