-- How the records of a table can be lent.
use Rattle.std.specs.Prelude.{List}
use Rattle.mem_rec.specs.declared.MemRec.{MemRec}
use Rattle.scratch_group.specs.declared.plan.Loan.{Loan}
use Rattle.scratch_group.specs.declared.plan.Loan.TheVariants.{Filter, Reader, Sharing, Planned}
use Rattle.scratch_group.specs.Filters.{IsFilter}
use Rattle.scratch_group.specs.Readers.{IsReader}
use Rattle.scratch_group.specs.Sharing.{IsSharingFilter}

-- the table is one of a filter, of a reader or of a filter that shares its constants, whose records have these sizes; or they are lent by a
-- plan, as those of any table can be
abbrev pub IsLoan : List MemRec → Loan → Type 0
IsLoan rs (Filter n) = IsFilter rs n
IsLoan rs (Reader n) = IsReader rs n
IsLoan rs (Sharing n) = IsSharingFilter rs n
IsLoan rs Planned = Unit {0}
