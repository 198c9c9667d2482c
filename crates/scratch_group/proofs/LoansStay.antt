-- How the records of a table are lent doesn't depend on their bases.
use Rattle.std.proofs.Common.{◌≡◌, ℕ, List, ◌∙◌}
use Rattle.mem_rec.specs.declared.MemRec.{MemRec}
use Rattle.record_loans.specs.declared.plan.ReaderSizes.{ReaderSizes}
use Rattle.scratch_group.specs.declared.plan.Loan.{Loan}
use Rattle.scratch_group.specs.declared.plan.Loan.TheVariants.{Filter, Reader, Sharing, Planned}
use Rattle.scratch_group.specs.Loans.{IsLoan}
use Rattle.scratch_group.specs.Readers.{IsOfReader}
use Rattle.scratch_group.specs.Words.{with_bases}
use Rattle.scratch_group.proofs.Filters.{filter_at_bases}
use Rattle.scratch_group.proofs.Sharing.{sharing_at_bases}
use Rattle.scratch_group.proofs.Tables.{length-with_bases, size_at_bases, attr_at_bases, table_at_bases}

reader_at_bases : (rs : List MemRec) (n : ReaderSizes) (base : ℕ → ℕ) → IsOfReader rs n → IsOfReader (with_bases rs base) n
reader_at_bases rs n base is = record {
  few = rw (length-with_bases rs base) is.few;
  some = is.some;
  object = size_at_bases rs base 0 ∙ is.object;
  second = λ there. attr_at_bases rs base 1 ∙ is.second (rw (length-with_bases rs base) at there);
  once = size_at_bases rs base 1 ∙ is.once;
}

pub loan_stays : (rs ts : List MemRec) (base : ℕ → ℕ) (loan : Loan) → ts ≡ with_bases rs base → IsLoan rs loan → IsLoan ts loan
loan_stays rs ts base (Filter n) e is = record { table = table_at_bases rs ts base e is.table; sizes = filter_at_bases rs ts n base e is.sizes }
loan_stays rs ts base (Reader n) e is = record { table = table_at_bases rs ts base e is.table; sizes = rw e (reader_at_bases rs n base is.sizes) }
loan_stays rs ts base (Sharing n) e is = record { table = table_at_bases rs ts base e is.table; sizes = sharing_at_bases rs ts n base e is.sizes }
loan_stays rs ts base Planned e is = tt
