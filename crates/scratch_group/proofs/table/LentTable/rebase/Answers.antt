use Rattle.std.proofs.Common.{List, subst, sym}
use Rattle.mem_rec.specs.declared.MemRec.{MemRec}
use Rattle.scratch_group.specs.Words.{record_place, HasWords}
use Rattle.scratch_group.proofs.LoansStay.{loan_stays}
use Rattle.scratch_group.proofs.table.LentTable.rebase.Goals as goal

pub rebase-requires-clause-sizes : goal.rebase-requires-clause-sizes
rebase-requires-clause-sizes c =
    subst (λ (rs : List MemRec). HasWords rs c.args.own.now c.args.shared.now c.args.group.now) (sym c.self.view_is) c.requires.sizes

pub invariant_of-self : goal.invariant_of-self
invariant_of-self c =
    let rs = c.self.inside.table in
    loan_stays rs _ (record_place rs c.args.own.now c.args.shared.now c.args.group.now) c.self.inside.loan c.rebase.ensures c.self.invariant
